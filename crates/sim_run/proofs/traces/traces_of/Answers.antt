use Rattle.std.proofs.Common.{◌≡◌, ◌++◌, ◌∙◌, map, ap, sym, subst}
use Rattle.sim_run.specs.declared.traces.Trace.TheVariants.{Packets}
use Rattle.sim_run.specs.Traces.{HaveOwnLines, HaveOwnNames, text_traces}
use Rattle.sim_run.proofs.TraceLaws.{own-lines, own-names}
use Rattle.sim_run.proofs.traces.traces_of.Goals as goal

pub returns-clause-own_lines : goal.returns-clause-own_lines
returns-clause-own_lines c =
    let captures = c.in_ok-captures.captures.items in
    let asked = c.args.scenario.now.ascii in
    let is : c.add_text.new.traces.items ≡ map Packets captures ++ text_traces asked =
    c.in_ok-add_text.ensures ∙ ap (λ ts. ts ++ text_traces asked) (c.in_ok-traces.ensures ∙ ap (map Packets) c.deref.ensures.value) in
    subst HaveOwnLines (sym is) (own-lines captures asked c.in_ok-captures.ensures.apart)

pub returns-clause-own_names : goal.returns-clause-own_names
returns-clause-own_names c =
    let captures = c.in_ok-captures.captures.items in
    let asked = c.args.scenario.now.ascii in
    let is : c.add_text.new.traces.items ≡ map Packets captures ++ text_traces asked =
    c.in_ok-add_text.ensures ∙ ap (λ ts. ts ++ text_traces asked) (c.in_ok-traces.ensures ∙ ap (map Packets) c.deref.ensures.value) in
    subst HaveOwnNames (sym is) (own-names captures asked c.in_ok-captures.ensures.apart c.in_ok-captures.ensures.numbers)
