use Rattle.std.proofs.Common.{◌*◌, ◌≤◌, false, length, sym, ap, ◌∙◌, arith}
use Rattle.std.proofs.lemmas.List.{take_all}
use Rattle.header_forms.specs.Checksum.{with_bytes, folded}
use Rattle.header_forms.proofs.FieldLaws.{all_bytes}
use Rattle.header_forms.proofs.WideSums.{pairs_more}
use Rattle.header_forms.proofs.sum.sum_of_pairs.Goals as goal

pub loop-i-preserved : goal.loop-i-preserved
loop-i-preserved c =
    rw c.add_wide-total.ensures
    (pairs_more (record { sum = folded c.args.sum; odd = false }) c.args.bytes.now c.loop-i.i c.loop-i.total c.from.result
    (all_bytes c.args.bytes.now c.type_inv.bytes) (omega arith) c.loop-i.invariant (c.from.ensures ∙ c.read_u16.ensures))

pub returns : goal.returns
returns c =
    let bytes = c.args.bytes.now in
    let all : length bytes ≤ 2 * c.loop-i.i = omega arith in
    sym (ap (with_bytes (record { sum = folded c.args.sum; odd = false })) (take_all (2 * c.loop-i.i) bytes all)) ∙ c.loop-i.invariant
