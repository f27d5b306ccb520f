-- What a program writes that answers its input with a text.
use Rattle.std.specs.Prelude.{◌≡◌, ℕ, List, take, replicate, Result, Ok}
use Rattle.text.specs.declared.errors.TextError.{TextError}
use Rattle.std.specs.Borrow.{Bor, MutBor}

-- the calls that a function may answer: the input, the buffer as lent, the reply, and the buffer as left
abbrev pub Calls : Type 1
Calls = Bor (List ℕ) → MutBor (List ℕ) → Result ℕ TextError → MutBor (List ℕ) → Type 0

-- a call on this input and a buffer of so many zeros may leave this text at the front of the buffer, and reply its length
pub record Answers (calls : Calls) (input : List ℕ) (most_text : ℕ) (text : List ℕ) : Type 0 where
  pub given : Bor (List ℕ)
  pub lent : MutBor (List ℕ)
  pub length : ℕ
  pub left : MutBor (List ℕ)
  pub reads : given.now ≡ input
  pub blank : lent.now ≡ replicate most_text 0
  pub replies : calls given lent (Ok length) left
  pub front : text ≡ take length left.now
