-- What forcing does to the values and levels of switches.
use Rattle.std.specs.Prelude.{◌≡◌, ℕ, ◌+◌, ◌*◌, ◌<◌, true, List, Some, None, Option, Ok, Err, Result, vec_items, nat_lt}
use Rattle.rules.specs.Constraints.{Constraint}
use Rattle.rules.specs.Rows.{bit}
use Rattle.search_theory.specs.Parts.{Part, unset}
use Rattle.search_theory.specs.Forcing.{any_dead, Still, Lies}
use Rattle.search.specs.declared.values.PartSetting.{PartSetting}
use Rattle.search.specs.declared.looking.Dead.{Dead}
use Rattle.search.specs.declared.system.System.{System}
use Rattle.search.specs.Values.{part_of, upto}
use Rattle.search.specs.Systems.{constraints}

-- the rules of a system
abbrev pub rules_of : System → List Constraint
rules_of s = constraints (vec_items s.clauses) (vec_items s.rows)

-- from s to t only what the rules force was set, and it was set at the level
pub record Moves (rules : List Constraint) (s t : PartSetting) : Type 0 where
  pub lies : Lies rules (part_of s) (part_of t)
  pub level : t.level ≡ s.level
  pub below : (i : ℕ) → i < s.level → upto t i ≡ upto s i
  pub top : upto s s.level ≡ part_of s → upto t s.level ≡ part_of t

-- forcing goes no further: some rule is dead, or nothing is forced
abbrev pub Ends : Result (Unit {0}) Dead → List Constraint → Part → Type 0
Ends (Ok u) rules p = Still rules p
Ends (Err d) rules p = any_dead p rules ≡ true

-- what is left of forcing n switches from an index on: it falls with each switch that is set, and with each return to the first rule
unfoldable pub left_over : ℕ → PartSetting → ℕ → ℕ
left_over n s from = 2 * unset n (part_of s) + bit (nat_lt 0 from)

-- forcing goes on with an index, or not at all, since a rule is dead or all are quiet
abbrev pub GoesOn : Result (Option ℕ) Dead → List Constraint → ℕ → PartSetting → PartSetting → Type 0
GoesOn (Ok None) rules from s t = Still rules (part_of t) × (t ≡ s)
GoesOn (Ok (Some next)) rules from s t = left_over 256 t next < left_over 256 s from
GoesOn (Err d) rules from s t = any_dead (part_of t) rules ≡ true
