-- The whole file in a buffer, and what comes of a sheet.
use Rattle.std.proofs.Common.{◌≡◌, ℕ, ◌+◌, ◌*◌, ◌<◌, ◌≤◌, true, leb, List, [], ◌∷◌, ◌++◌, length, Some, None, Ok, Err, Option, sym, refl, ap, ◌∙◌, subst, arith, length-append}
use Rattle.std.specs.List.{flat_map}
use Rattle.std.proofs.lemmas.Grind.{flat_map-append}
use Rattle.std.proofs.lemmas.Bool.{leb-true}
use Rattle.rules.specs.declared.faults.Cause.TheVariants.{ShortBuffer}
use Rattle.rules.specs.declared.literals.Literal.{Literal}
use Rattle.rules.specs.declared.faults.Fault.{Fault}
use Rattle.rules.specs.First.{every, verdict}
use Rattle.rules.specs.Constraints.{Constraint}
use Rattle.rules.specs.Lawful.{inside}
use Rattle.rules.proofs.Lawfuls.{passed}
use Rattle.sheets.specs.Meaning.{Meaning}
use Rattle.text.specs.Lent.{over_front}
use Rattle.files.proofs.Steps.{other_value}
use Rattle.writer.specs.declared.output.Output.{Output}
use Rattle.writer.specs.Bytes.{record_bytes, over_at}
use Rattle.writer.specs.Output.{HasRoom, Puts}
use Rattle.writer.specs.Expansion.{expanded, clauses_of, is_narrow}
use Rattle.writer.specs.Writing.{rule_bytes, head_bytes, end_bytes, file_bytes, first_year_bytes, writer_fault, first_wide, unless_wide, refusal, writing, Outcome}
use Rattle.writer.specs.Parts.{record_count, Writable}
use Rattle.writer.proofs.Buffers.{over_all}
use Rattle.writer.proofs.Puts.{room_front, room_then, puts_then}
use Rattle.writer.proofs.Slots.{length_record}

flat_map_twice : {X Y Z : Type 0} (f : X → List Y) (g : Y → List Z) (xs : List X) → flat_map g (flat_map f xs) ≡ flat_map (λ x. flat_map g (f x)) xs
flat_map_twice f g [] = refl
flat_map_twice f g (x ∷ xs) = grind (arith, flat_map-append, flat_map_twice f g xs)

length_records : (cs : List (List Literal)) → length (flat_map record_bytes cs) ≡ 18 * length cs
length_records [] = refl
length_records (c ∷ cs) = omega (arith, length_records cs, length_record c, length-append (record_bytes c) (flat_map record_bytes cs))

length_file : (n : ℕ) (cs : List (List Literal)) → length (file_bytes n cs) ≡ 8 + 18 * length cs
length_file n cs = omega (arith, length_records cs, length-append (flat_map record_bytes cs) (end_bytes (length cs)))

-- head, records and end, put one behind the other into the buffer old, by a cursor that is o at first
module _ (m : Meaning) (k : ℕ) (counted : k ≡ length (clauses_of m.rules)) (old : List ℕ) (room : length (first_year_bytes m) ≤ length old) (o a : Output) (same : o.buffer.now ≡ old) (empty : o.end ≡ 0) (n : ℕ) (is : n ≡ m.switches) (head : Puts (head_bytes n) o a) where
  parts : head_bytes n ++ (flat_map rule_bytes m.rules ++ end_bytes k) ≡ first_year_bytes m
  parts =
      ap (λ rs. head_bytes n ++ (rs ++ end_bytes k)) (sym (flat_map_twice expanded record_bytes m.rules))
      ∙ (λ t. head_bytes (is t) ++ (flat_map record_bytes (clauses_of m.rules) ++ end_bytes (counted t)))

  behind_head : HasRoom (flat_map rule_bytes m.rules ++ end_bytes k) a
  behind_head =
      let all : HasRoom (head_bytes n ++ (flat_map rule_bytes m.rules ++ end_bytes k)) o = omega (arith, ap length parts, ap length same, room, empty) in
      room_then (head_bytes n) (flat_map rule_bytes m.rules ++ end_bytes k) o a all head

  pub records_room : HasRoom (flat_map rule_bytes m.rules) a
  records_room = room_front (flat_map rule_bytes m.rules) (end_bytes k) a behind_head

  module _ (b : Output) (records : Puts (flat_map rule_bytes m.rules) a b) where
    pub end_room : HasRoom (end_bytes k) b
    end_room = room_then (flat_map rule_bytes m.rules) (end_bytes k) a b behind_head records

    pub file_put : (c : Output) → Puts (end_bytes k) b c → c.buffer.now ≡ over_front (first_year_bytes m) old
    file_put c end =
        let behind = puts_then (flat_map rule_bytes m.rules) (end_bytes k) a b c (omega (arith, behind_head)) records end in
        let whole = puts_then (head_bytes n) (flat_map rule_bytes m.rules ++ end_bytes k) o a c (omega (arith, empty)) head behind in
        whole.over ∙ (λ t. over_at (same t) (empty t) (parts t)) ∙ over_all old (first_year_bytes m)

-- what a count tells of the refusals
accepted : {X F : Type 0} (o : Option F) (x k : X) → Ok k ≡ verdict o x → (o ≡ None) × (k ≡ x)
accepted None x k h = (refl, cc)
accepted (Some f) x k h = cc

not_wide : (o : Option ℕ) (later : Option Fault) → unless_wide o later ≡ None → (o ≡ None) × (later ≡ None)
not_wide None later h = (refl, h)
not_wide (Some k) later h = cc

all_narrow : (k : ℕ) (rules : List Constraint) → first_wide k rules ≡ None → every is_narrow rules ≡ true
all_narrow k [] h = refl
all_narrow k (r ∷ rules) h = grind (arith, all_narrow (k + 1) rules)

unrefused : (m : Meaning) → refusal m ≡ None → Writable m
unrefused m h =
    let a = passed (inside 256 m.switches) _ _ h in
    let b = not_wide (first_wide 0 m.rules) _ a.1 in
    let c = passed (leb (length (clauses_of m.rules)) 1024) _ _ b.1 in
    record { some = a.0; narrow = all_narrow 0 m.rules b.0; few = leb-true _ _ c.0 }

module _ (m : Meaning) (old : List ℕ) where
  pub outcome_refused : (f : Fault) → Err f ≡ record_count m → Outcome (writing m) old old (Err f)
  outcome_refused f h = subst (λ w. Outcome w old old (Err f)) (sym (other_value (refusal m) _ (first_year_bytes m) f h)) (refl, refl)

  module _ (k : ℕ) (counted : Ok k ≡ record_count m) where
    pub writable : Writable m
    writable = unrefused m (accepted (refusal m) _ k counted).0

    pub count_is : k ≡ length (clauses_of m.rules)
    count_is = (accepted (refusal m) _ k counted).1

    written_as : Ok (first_year_bytes m) ≡ writing m
    written_as = ap (λ o. verdict o (first_year_bytes m)) (sym (accepted (refusal m) _ k counted).0)

    pub length_written : length (first_year_bytes m) ≡ 8 + 18 * k
    length_written = length_file m.switches (clauses_of m.rules) ∙ ap (λ n. 8 + 18 * n) (sym count_is)

    pub outcome_short : length old < 8 + 18 * k → Outcome (writing m) old old (Err (writer_fault ShortBuffer 0))
    outcome_short short = let long = length_written in subst (λ w. Outcome w old old (Err (writer_fault ShortBuffer 0))) written_as (omega arith, refl, refl)

    pub outcome_written : (new : List ℕ) → new ≡ over_front (first_year_bytes m) old → Outcome (writing m) old new (Ok (8 + 18 * k))
    outcome_written new h = subst (λ w. Outcome w old new (Ok (8 + 18 * k))) written_as (sym length_written, h)
