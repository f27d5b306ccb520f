-- Lemmas for the laws of sheets: what holds of each rule holds of one, and that a table is a lawful sheet.
use Rattle.std.specs.Prelude.{◌≡◌, ℕ, zero, suc, ◌≤◌, Bool, true, List, [], ◌∷◌, map, length, Some}
use Rattle.std.proofs.Common.{ap, ◌∙◌, arith}
use Rattle.std.specs.List.{slice_get}
use Rattle.std.proofs.lemmas.List.{length-map}
use Rattle.std.proofs.lemmas.Bool.{and_parts}
use Rattle.rules.specs.First.{every}
use Rattle.rules.specs.Lawful.{lawful}
use Rattle.rules.specs.declared.rule.Rule.{Rule}
use Rattle.rules.specs.Views.{constraint}
use Rattle.sheets.specs.Meaning.{LawfulSheet}

pub every_nth : {X : Type 0} (t : X → Bool) (xs : List X) (i : ℕ) (x : X) → every t xs ≡ true → slice_get xs i ≡ Some x → t x ≡ true
every_nth t [] i x h e = cc
every_nth t (y ∷ ys) zero x h e = let same : x ≡ y = cc in ap t same ∙ (and_parts (t y) _ h).0
every_nth t (y ∷ ys) (suc i) x h e = every_nth t ys i x (and_parts (t y) _ h).1 e

-- what a table holds is a lawful sheet
pub table_lawful : (n k : ℕ) (rs : List Rule) → n ≤ 256 → k ≤ 1024 → k ≡ length rs → every (lawful n) (map constraint rs) ≡ true → LawfulSheet (record { switches = n; rules = map constraint rs })
table_lawful n k rs narrow short same sound = record { narrow = narrow; short = simp length-map (omega arith); sound = sound }
