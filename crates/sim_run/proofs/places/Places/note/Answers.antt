use Rattle.std.proofs.Common.{[], ◌∷◌, ◌++◌, Some, refl, sym, subst}
use Rattle.sim_run.specs.declared.places.Places.{Places}
use Rattle.sim_run.specs.declared.traces.Trace.{Trace}
use Rattle.sim_run.specs.Places.{FindsPlaces}
use Rattle.sim_run.specs.Traces.{HaveOwnLines}
use Rattle.sim_run.proofs.PlaceLaws.{finds-packets, finds-text}
use Rattle.sim_run.proofs.places.Places.note.Goals as goal

pub returns-in_ok-insert-in-Packets : goal.returns-in_ok-insert-in-Packets
returns-in_ok-insert-in-Packets c traces found own at =
    let before = c.args.self.now in
    let after : Places = record { captured = c.insert.new.self; text = before.text } in
    subst (λ (t : Trace). FindsPlaces after (traces ++ t ∷ [])) (sym c.in-Packets.is)
    (finds-packets before after traces c.in-Packets.capture c.args.place found
    (subst (λ (t : Trace). HaveOwnLines (traces ++ t ∷ [])) c.in-Packets.is own) at refl c.in_ok-insert-in-Packets.ensures.updates.0)

pub returns-in-Text : goal.returns-in-Text
returns-in-Text c traces found own at =
    let before = c.args.self.now in
    let after : Places = record { captured = before.captured; text = Some c.args.place } in
    subst (λ (t : Trace). FindsPlaces after (traces ++ t ∷ [])) (sym c.in-Text.is)
    (finds-text before after traces c.args.place found (subst (λ (t : Trace). HaveOwnLines (traces ++ t ∷ [])) c.in-Text.is own) at refl refl)
