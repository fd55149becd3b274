use Rattle.std.proofs.Common.{◌++◌, sym, ap, ◌∙◌, append_assoc, map, cond, [], ◌∷◌}
use Rattle.std.proofs.lemmas.List.{map-append}
use Rattle.tcp_stream.specs.History.{delivery}
use Rattle.tcp_stream.specs.History.Told.{End}
use Rattle.tcp_conn.specs.Step.{effect_of}
use Rattle.tcp_conn.proofs.take.tell.Goals as goal

pub returns : goal.returns
returns c =
    let given = delivery c.args.received.bytes.items in
    let told = cond c.args.received.end (End ∷ []) [] in
    c.in_ok-tell_end.ensures
    ∙ ap (λ l. l ++ map effect_of told) c.in_ok-deliver.ensures
    ∙ append_assoc c.args.out.now.items (map effect_of given) (map effect_of told)
    ∙ ap (λ l. c.args.out.now.items ++ l) (sym (map-append effect_of given told))
