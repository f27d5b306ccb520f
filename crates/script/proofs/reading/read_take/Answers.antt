use Rattle.std.proofs.Common.{◌≡◌, ◌*◌, length, take, drop, vec_items, Some, sym, ap, ◌∙◌, arith}
use Rattle.std.proofs.lemmas.Bool.{cond-true, le-leb}
use Rattle.files.specs.Numbers.{entries_in}
use Rattle.script.specs.Asked.{before, take as taken}
use Rattle.script.proofs.Pairs.{entries_of_front}
use Rattle.script.proofs.reading.read_take.Goals as goal

pub returns : goal.returns
returns c =
    let bs = c.args.bytes.now in
    let w = c.args.count in
    let size : 2 * c.from.result ≡ 2 * w = omega (arith, c.from.ensures) in
    let cut = c.in-Some.ensures.cases in
    let front = cut.1 ∙ ap (λ k. take k bs) size in
    let behind : drop (2 * w) bs ≡ c.in-Some.rest.now = sym (cut.2 ∙ ap (λ k. drop k bs) size) in
    let entries : entries_in w bs ≡ vec_items c.in_ok-entries.entries = sym (c.in_ok-entries.ensures ∙ entries_of_front bs c.in-Some.entries.now w front (cut.3 ∙ size)) in
    cond-true _ _ _ (le-leb (2 * w) (length bs) (omega (arith, cut.0)))
    ∙ (λ t. Some (before (behind t) (taken c.args.kind (entries t))))
