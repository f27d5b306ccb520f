use Rattle.std.proofs.Common.{◌≡◌, ◌+◌, false, unwrap_or, take, ap, ◌∙◌, arith, rules}
use Rattle.std.proofs.lemmas.List.{length-set, take_all}
use Rattle.search.specs.Searches.{shown}
use Rattle.session.proofs.Founds.{found_long, found_shown, values_more}
use Rattle.session.proofs.session.Session.setting.Goals as goal

pub loop-i-preserved : goal.loop-i-preserved
loop-i-preserved c =
    let inv = c.loop-i.invariant in
    let this = c.args.self.now.search in (
      λ s e size.
          let long = found_long this s e in
          let shows : c.unwrap_or.result ≡ unwrap_or (shown this (c.loop-i.i + 1)) false = search rules in
          values_more s c.loop-i.values c.loop-i.i c.unwrap_or.result (omega (arith, long, size, c.from-width.ensures)) (omega (arith, inv.1, this.system.few, size, c.from-width.ensures))
          (shows ∙ ap (λ o. unwrap_or o false) (found_shown this s (c.loop-i.i + 1) e (omega arith, omega (arith, size, c.from-width.ensures)))) (inv.0 s e size),
      length-set c.loop-i.values _ _ ∙ inv.1,
    )

pub returns-clause-found : goal.returns-clause-found
returns-clause-found c = λ s e size.
    let long = found_long c.args.self.now.search s e in
    let done = c.loop-i.invariant.0 s e size in
    let at : c.from-width.result ≡ c.loop-i.i = omega (arith, c.from-width.ensures) in
    ap (λ k. take k c.loop-i.values) at ∙ done ∙ take_all c.loop-i.i s (omega (arith, long, size, c.from-width.ensures))
