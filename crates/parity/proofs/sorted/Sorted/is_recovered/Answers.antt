use Rattle.std.proofs.Common.{◌≡◌, ℕ, ◌^◌, ◌<◌, Bool, true, false, List, map, length, get_or, Decides, subst}
use Rattle.rules.specs.Constraints.{parity}
use Rattle.rules.specs.Views.{constraint}
use Rattle.parity_theory.proofs.Members.{lawful_proper}
use Rattle.parity.specs.Places.{off_side_at}
use Rattle.parity.proofs.Recovered.{decided}
use Rattle.parity.proofs.sorted.Sorted.is_recovered.Goals as goal

pub returns : goal.returns
returns c =
    let s = c.args.self.now in
    let vs = c.args.switches.now in
    let side = c.args.side in
    decided (map constraint s.rules.now) s.sound vs side (lawful_proper 256 (parity vs side) c.requires.rule) c.requires.narrow c.are_all_marked.result
    (subst (λ (m : List Bool). Decides c.are_all_marked.result ((k : ℕ) → k < 2 ^ length vs → off_side_at side k ≡ true → get_or m k false ≡ true)) c.mark_bucket.ensures c.are_all_marked.ensures)
