use Rattle.std.proofs.Common.{◌≡◌, ◌/◌, length, vec_items, ◌∙◌, rules}
use Rattle.std.specs.Simd.{first_chunks}
use Rattle.std.proofs.lemmas.Result.{IfOk-weaker}
use Rattle.std.proofs.lemmas.Iterator.{YieldsList-from_slice, YieldsList-from_map, items_from_collect}
use Rattle.files.specs.Numbers.{entries_in}
use Rattle.script.proofs.Pairs.{of_pair, entries_of_pairs}
use Rattle.script.proofs.reading.read_entries.Goals as goal

pub returns : goal.returns
returns c =
    let bs = c.args.bytes.now in
    let pairs = first_chunks 2 (length bs / 2) bs in
    IfOk-weaker c.collect.result _ (λ v. vec_items v ≡ entries_in (length bs / 2) bs) (λ v e. e ∙ entries_of_pairs bs (length bs / 2))
    (items_from_collect _ c.collect.ensures.ran (YieldsList-from_map _ of_pair (YieldsList-from_slice pairs (cc)) c.map.ensures.closure (λ x r q k. search rules)))
