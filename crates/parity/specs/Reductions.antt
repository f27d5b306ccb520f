-- What a reduction tells, and what that says of the rules.
use Rattle.std.specs.Prelude.{◌≡◌, ℕ, ◌^◌, true, ◌↔◌, List, map, Some, None, vec_items, Option}
use Rattle.rules.specs.First.{every}
use Rattle.rules.specs.Settings.{Setting}
use Rattle.rules.specs.Constraints.{Constraint, Keeps}
use Rattle.rules.specs.Rows.{free, tally, Reduced}
use Rattle.rules.specs.Views.{constraint, row_constraint}
use Rattle.parity_theory.specs.Standing.{KeepsParities}
use Rattle.parity_theory.specs.Reducing.{left_free}
use Rattle.parity_theory.specs.Counting.{Exactly}
use Rattle.parity_theory.specs.Claims.{is_parity, NoneKeeps}
use Rattle.parity.specs.declared.standing.Standing.{Standing}
use Rattle.parity.specs.declared.reduction.Reduction.{Reduction}
use Rattle.parity.specs.Views.{unless_contradiction}

-- the rules that stand, as the definitions have them
abbrev pub standing_rules : Standing → List Constraint
standing_rules s = map constraint (vec_items s.rules)

-- the number of switches of the last reduction
abbrev pub switches_told : Reduction → ℕ
switches_told r = r.switches

-- the rows, absent on contradiction
abbrev pub rows_told : Reduction → Option (List Constraint)
rows_told r = unless_contradiction r.outcome (map row_constraint (vec_items r.rows))

-- told is the reduction of the parity rules that stand among the rules over n switches
pub record Right (n : ℕ) (rules : List Constraint) (told : Option (List Constraint)) : Type 0 where
  -- the rows are a reduced system
  pub reduced : (rs : List Constraint) → told ≡ Some rs → Reduced n rs × (every is_parity rs ≡ true)
  -- which the same settings keep as the parity rules that stand
  pub same_settings : (rs : List Constraint) → told ≡ Some rs → (s : Setting) → KeepsParities n rules s ↔ Keeps rs s
  -- there are none exactly where no setting keeps these
  pub contradiction : (told ≡ None) ↔ NoneKeeps n rules
  -- the freedom is the number of switches that are the dependent of no row
  pub free_switches : (rs : List Constraint) → told ≡ Some rs → left_free n told ≡ Some (tally (free rs) n)
  -- with f free switches, 2^f settings keep them
  pub counts : (f : ℕ) → left_free n told ≡ Some f → Exactly n (2 ^ f) (KeepsParities n rules)
