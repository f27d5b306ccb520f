-- What a search keeps true of its state, taken out of its ghost field, and what it says of the try that is due.
use Rattle.std.proofs.Common.{◌≡◌, ℕ, ◌<◌, get_or, sym, subst}
use mathlib.Core.Logic.{∥∥₁_elim}
use Rattle.rules.specs.Constraints.{positive}
use Rattle.search_theory.specs.Tries.{negative}
use Rattle.search.specs.declared.search.Search.{Search}
use Rattle.search.specs.declared.searching.Due.TheVariants.{Add, Turn}
use Rattle.search.specs.declared.tries.Tries.{Tries}
use Rattle.search.specs.declared.values.PartSetting.{PartSetting}
use Rattle.search.specs.Values.{back}
use Rattle.search.specs.Moves.{rules_of}
use Rattle.search.specs.Stacks.{no_try, Tops}
use Rattle.search.specs.States.{Standing, Ready}
use Rattle.search.specs.Searches.{Makes}
use Rattle.search.proofs.Propositions.{standing_prop}
use Rattle.search.proofs.Standings.{made_room, ready_off, ready_on}

pub standing_of : (s : Search) → Standing s.system.switches (rules_of s.system) s.state
standing_of s = ∥∥₁_elim s.stands (standing_prop s.system.switches (rules_of s.system) s.state) (λ h. h)

-- a switch is to be tried at off
module _ (s : Search) (v : ℕ) (makes : Makes (Add v) s) where
  pub off_room : s.state.tries.count < 256
  off_room = made_room s.system.switches (rules_of s.system) s.state (standing_of s) (negative v) s.state.tries.count makes.follows s.system.few

  pub off_ready : (u : Tries) → Tops (negative v) s.state.tries.count s.state.tries u → Ready s.system.switches (rules_of s.system) (negative v) (record { part = s.state.part; tries = u; forced = s.state.forced })
  off_ready u tops = ready_off s.system.switches (rules_of s.system) s.state (standing_of s) v makes.follows makes.fits u tops

-- the try at an index is to be turned to on
module _ (s : Search) (at : ℕ) (makes : Makes (Turn at) s) where
  pub turn_room : at < 256
  turn_room = made_room s.system.switches (rules_of s.system) s.state (standing_of s) (positive (get_or s.state.tries.table at no_try).switch) at makes.follows s.system.few

  pub turn_ready : (u : Tries) → Tops (positive (get_or s.state.tries.table at no_try).switch) at s.state.tries u → (t : PartSetting) → t ≡ back at s.state.part
      → Ready s.system.switches (rules_of s.system) (positive (get_or s.state.tries.table at no_try).switch) (record { part = t; tries = u; forced = s.state.forced })
  turn_ready u tops t is =
      subst (λ (x : PartSetting). Ready s.system.switches (rules_of s.system) (positive (get_or s.state.tries.table at no_try).switch) (record { part = x; tries = u; forced = s.state.forced })) (sym is)
      (ready_on s.system.switches (rules_of s.system) s.state (standing_of s) (positive (get_or s.state.tries.table at no_try).switch) at makes.follows makes.fits u tops)
