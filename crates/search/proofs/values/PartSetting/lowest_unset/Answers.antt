use Rattle.std.proofs.Common.{◌≡◌, ◌≤◌, ◌+◌, ◌∙◌, length, take, ap, arith, rules}
use Rattle.std.specs.Option.{option_map}
use Rattle.std.specs.List.{position}
use Rattle.search.proofs.Levels.{is_unset, lowest_position}
use Rattle.search.proofs.values.PartSetting.lowest_unset.Goals as goal

pub returns : goal.returns
returns c =
    let long : length c.args.self.now.values ≡ 256 = search rules in
    let few : c.args.switches ≤ length c.args.self.now.values = omega arith in
    let mapped : c.map.result ≡ option_map (λ k. k + 1) c.first_unset.result = search rules in
    let found : c.first_unset.result ≡ position is_unset (take c.args.switches c.args.self.now.values) = search rules in
    mapped ∙ ap (option_map (λ k. k + 1)) found ∙ lowest_position c.args.self.now c.args.switches few
