-- The law, by induction over histories.
use Rattle.std.proofs.Common.{◌≡◌, ℕ, ◌+◌, ◌≤◌, Bool, true, false, cond, ltb, ◌⊎◌, ◌↔◌, List, [], ◌∷◌, ◌++◌, map, length, drop, ℤ, Some, None, Ok, Err, Option, Result, sym, refl, ap, ◌∙◌, subst, ap₂, inl, inr, append_assoc, append-nil, arith}
use Rattle.std.proofs.lemmas.Bool.{ltb-true, ltb-false}
use Rattle.rules.specs.declared.literals.Literal.{Literal}
use Rattle.rules.specs.declared.kinds.RawKind.{RawKind}
use Rattle.rules.specs.declared.faults.Layer.TheVariants as layer
use Rattle.rules.specs.declared.faults.Cause.TheVariants.{ShortBuffer, NothingFound}
use Rattle.rules.specs.declared.faults.Fault.{Fault}
use Rattle.rules.specs.First.{on_ok}
use Rattle.rules.specs.Settings.{setting}
use Rattle.rules.specs.Constraints.{Constraint, Earliest}
use Rattle.rules.specs.Lawful.{lawful}
use Rattle.rules.specs.Rows.{bit}
use Rattle.rules.specs.Faults.{fault}
use Rattle.rules.proofs.Lawfuls.{every_push}
use Rattle.sheets.specs.Meaning.{Meaning, LawfulSheet}
use Rattle.parity_theory.specs.Claims.{LawfulRules}
use Rattle.search_theory.specs.Parts.{maybe}
use Rattle.search_theory.specs.Tries.{Course}
use Rattle.search_theory.specs.Tries as search
use Rattle.search_theory.specs.Courses.{next_in, onward, tries, begin, after, has_ended}
use Rattle.search_theory.proofs.Courses.{no_tries, courses_join, all_made}
use Rattle.session_theory.specs.System.{system}
use Rattle.session_theory.specs.Session.{Standing, fresh, searched, Session, opened, size, rules, taken, joined, after_take, Reply, course_of, course, End, found, end_at, settled_course, settled_tries, at_course, setting_at, setting_of, when_found, copy_reply, overwritten, copy_bytes, Entry, took, freedom_told, settled, copied, Replies, leaves, Happens}
use Rattle.session_theory.specs.Law.{History, Recorded, accepted, standing, since, budget, budgets, Finds, FoundIn, SettledRight, CopiedRight, Right, Lawful, Law, CallsLawful}
use Rattle.session_theory.proofs.Courses.{Answered, answered}
use Rattle.session_theory.proofs.Takes.{taken_lawful, taken_named}

-- a settle that leaves the search at the course c, which is the one after all tries that its stretch allowed
module _ (n : ℕ) (rs : List Constraint) (b total k : ℕ) where
  settled_at : (c : Course) → after n (system n rs) total ≡ c → Answered n rs total c → (has_ended c ≡ false → k ≡ b) → SettledRight n rs b total (end_at c) k
  settled_at (search.found q) is a all =
      record {
        found_when = λ _. (λ _. (setting q, a.1.keeps), λ _. (q, refl));
        earliest = λ values e. let same : q ≡ values = cc in subst (λ vs. (length vs ≡ n) × Earliest n rs (setting vs)) same a;
        none_when = λ _. (λ e. cc, λ unkept. absurd (unkept (setting q) a.1.keeps));
        spent_when = (λ e. cc, λ p. let y = sym (ap has_ended is) ∙ p.1 in cc);
        spent_then = λ e. cc;
      }
  settled_at search.nothing is a all =
      record {
        found_when = λ _. (λ p. let y = p.1 in cc, λ p. absurd (a p.0 p.1));
        earliest = λ values e. cc;
        none_when = λ _. (λ _. a, λ _. refl);
        spent_when = (λ e. cc, λ p. let y = sym (ap has_ended is) ∙ p.1 in cc);
        spent_then = λ e. cc;
      }
  settled_at (search.due ts) is a all =
      record {
        found_when = λ h. absurd (h refl);
        earliest = λ values e. cc;
        none_when = λ h. absurd (h refl);
        spent_when = (λ _. (all refl, ap has_ended is), λ _. refl);
        spent_then = λ _. a;
      }

-- a copy from a session that has the setting that was found, or none
module _ (n : ℕ) (Found : List Bool → Type 0) (old : List ℕ) where
  refused : (f : Fault) → (n ≤ length old → (values : List Bool) → Found values → ⊥) → CopiedRight n Found old (Err f) old
  refused f never =
      record {
        accepted_when = (λ e. cc, λ p. absurd (never p.0 p.1.0 p.1.1));
        writes = λ values e q. cc;
        else_nothing = λ g e. refl;
      }

  copied_right : (o : Option (List Bool)) → ((values : List Bool) → Found values ↔ (o ≡ Some values)) → CopiedRight n Found old (copy_reply n o old) (copy_bytes n o old)
  copied_right o is = by (ltb (length old) n) refl o is
    where
      by : (b : Bool) → ltb (length old) n ≡ b → (o : Option (List Bool)) → ((values : List Bool) → Found values ↔ (o ≡ Some values)) →
          CopiedRight n Found old (cond b (Err (fault layer.Session ShortBuffer 0 0)) (when_found o)) (cond b old (overwritten n o old))
      by true e o is = let short = ltb-true (length old) n e in refused (fault layer.Session ShortBuffer 0 0) (λ long. absurd (omega arith))
      by false e None is = refused (fault layer.Session NothingFound 0 0) (λ _ values q. let y = (is values).0 q in cc)
      by false e (Some vs) is =
          let long : n ≤ length old = ltb-false (length old) n e in
          record {
            accepted_when = (λ _. (long, (vs, (is vs).1 refl)), λ _. refl);
            writes = λ values _ q. let y = (is values).0 q in let same : vs ≡ values = cc in ap (λ u. map bit u ++ drop n old) same;
            else_nothing = λ g e. cc;
          }

-- the setting found, before and after a settle
end_found : (c : Course) (values : List Bool) → (end_at c ≡ found values) ↔ (setting_at c ≡ Some values)
end_found (search.found q) values = (λ e. let same : q ≡ values = cc in ap Some same, λ e. let same : q ≡ values = cc in ap found same)
end_found search.nothing values = (λ e. cc, λ e. cc)
end_found (search.due ts) values = (λ e. cc, λ e. cc)

found_stays : (next : List Literal → Course) (b : ℕ) (c : Course) (values : List Bool) → setting_at c ≡ Some values → setting_at (onward next b c) ≡ Some values
found_stays next b (search.found q) values h = h
found_stays next b search.nothing values h = h
found_stays next b (search.due ts) values h = cc

still_found : (n : ℕ) (rs : List Constraint) (b : ℕ) (w : Standing) (values : List Bool) → setting_of w ≡ Some values → setting_at (onward (next_in n (system n rs)) b (course_of n rs w)) ≡ Some values
still_found n rs b fresh values h = cc
still_found n rs b (searched c) values h = found_stays (next_in n (system n rs)) b c values h

none_found : (values : List Bool) → ⊥ ↔ (◌≡◌ {A = Option (List Bool)} None (Some values))
none_found values = (λ p. absurd p, λ e. cc)

-- what a history and the session that it left have in common: above all, the search is where the budgets of the stretch take it
record Carried (m : Meaning) (h : History) (s : Session) : Type 0 where
  same_sheet : s.sheet ≡ m
  same_rules : rules s ≡ standing m h
  all_lawful : LawfulRules m.switches (standing m h)
  same_course : course s ≡ after m.switches (system m.switches (standing m h)) (budgets (since h))
  same_found : (values : List Bool) → FoundIn (since h) values ↔ (setting_of s.standing ≡ Some values)

begun : (n : ℕ) (rs : List Constraint) → begin n (system n rs) ≡ after n (system n rs) 0
begun n rs = sym (no_tries (next_in n (system n rs)) (begin n (system n rs))).0

carried_opened : (m : Meaning) → LawfulSheet m → Carried m [] (opened m)
carried_opened m good =
    record {
      same_sheet = refl;
      same_rules = append-nil m.rules;
      all_lawful = good.sound;
      same_course = ap (λ rs. begin m.switches (system m.switches rs)) (append-nil m.rules) ∙ begun m.switches m.rules;
      same_found = none_found;
    }

module _ (m : Meaning) (h : History) (s : Session) (c : Carried m h s) where
  same_size : size s ≡ m.switches
  same_size = ap (λ u. u.switches) c.same_sheet

  -- a call that leaves the session, adds no rule, has no budget and finds nothing
  carried_idle : (x : Entry) → accepted x ≡ None → budget x ≡ 0 → ((values : List Bool) → Finds values x → ⊥) → Carried m (x ∷ h) s
  carried_idle x a b never =
      record {
        same_sheet = c.same_sheet;
        same_rules = c.same_rules ∙ sym stands;
        all_lawful = subst (LawfulRules m.switches) (sym stands) c.all_lawful;
        same_course = c.same_course ∙ ap₂ (λ rs k. after m.switches (system m.switches rs) k) (sym stands) (sym (ap budgets stretch ∙ omega arith));
        same_found = λ values. (λ p. only values (subst (λ l. FoundIn l values) stretch p), λ e. subst (λ l. FoundIn l values) (sym stretch) (inr ((c.same_found values).1 e)));
      }
    where
      stands : standing m (x ∷ h) ≡ standing m h
      stands = ap (λ o. maybe o (standing m h) (λ r. standing m h ++ (r ∷ []))) a

      stretch : since (x ∷ h) ≡ x ∷ since h
      stretch = ap (λ o. maybe o (x ∷ since h) (λ r. [])) a

      only : (values : List Bool) → Finds values x ⊎ FoundIn (since h) values → setting_of s.standing ≡ Some values
      only values (inl p) = absurd (never values p)
      only values (inr p) = (c.same_found values).0 p

  -- an accepted take of the rule r
  carried_joined : (x : Entry) (r : Constraint) → accepted x ≡ Some r → lawful (size s) r ≡ true → Carried m (x ∷ h) (joined s r)
  carried_joined x r a good =
      record {
        same_sheet = c.same_sheet;
        same_rules = same;
        all_lawful = subst (LawfulRules m.switches) (sym stands) (every_push (lawful m.switches) (standing m h) r c.all_lawful (subst (λ n. lawful n r ≡ true) same_size good));
        same_course = ap₂ (λ n rs. begin n (system n rs)) same_size same ∙ begun m.switches (standing m (x ∷ h)) ∙ ap (after m.switches (system m.switches (standing m (x ∷ h)))) (sym (ap budgets stretch));
        same_found = λ values. subst (λ l. FoundIn l values ↔ (◌≡◌ {A = Option (List Bool)} None (Some values))) (sym stretch) (none_found values);
      }
    where
      stands : standing m (x ∷ h) ≡ standing m h ++ (r ∷ [])
      stands = ap (λ o. maybe o (standing m h) (λ q. standing m h ++ (q ∷ []))) a

      stretch : since (x ∷ h) ≡ []
      stretch = ap (λ o. maybe o (x ∷ since h) (λ q. [])) a

      same : rules (joined s r) ≡ standing m (x ∷ h)
      same = sym (append_assoc s.sheet.rules s.margin (r ∷ [])) ∙ ap (λ l. l ++ (r ∷ [])) c.same_rules ∙ sym stands

  carried_took : (kind : RawKind) (es : List ℤ) (r : Reply) → r ≡ on_ok (λ _. tt) (taken s kind es) → Carried m (took kind es r ∷ h) (after_take s (taken s kind es))
  carried_took kind es r e = subst (λ q. Carried m (took kind es q ∷ h) (after_take s (taken s kind es))) (sym e) (by (taken s kind es) refl)
    where
      by : (y : Result Constraint Fault) → taken s kind es ≡ y → Carried m (took kind es (on_ok (λ _. tt) y) ∷ h) (after_take s y)
      by (Ok q) e = carried_joined (took kind es (Ok tt)) q (taken_named s kind es q e) (taken_lawful s kind es q e)
      by (Err f) e = carried_idle (took kind es (Err f)) refl refl (λ _ p. p)

  module _ (b : ℕ) where
    abbrev n : ℕ
    n = m.switches

    abbrev rs : List Constraint
    rs = standing m h

    abbrev before : ℕ
    before = budgets (since h)

    joins : onward (next_in n (system n rs)) b (after n (system n rs) before) ≡ after n (system n rs) (b + before)
    joins = courses_join (next_in n (system n rs)) before b (begin n (system n rs)) ∙ ap (after n (system n rs)) (omega arith)

    course_is : settled_course s b ≡ after n (system n rs) (b + before)
    course_is = ap₂ (λ k l. onward (next_in k (system k l)) b (course s)) same_size c.same_rules ∙ ap (onward (next_in n (system n rs)) b) c.same_course ∙ joins

    tries_are : settled_tries s b ≡ tries (next_in n (system n rs)) b (after n (system n rs) before)
    tries_are = ap₂ (λ k l. tries (next_in k (system k l)) b (course s)) same_size c.same_rules ∙ ap (tries (next_in n (system n rs)) b) c.same_course

    carried_settled : (e : End) (k : ℕ) → e ≡ end_at (settled_course s b) → Carried m (settled b e k ∷ h) (at_course s (settled_course s b))
    carried_settled e k is =
        record {
          same_sheet = c.same_sheet;
          same_rules = c.same_rules;
          all_lawful = c.all_lawful;
          same_course = course_is;
          same_found = λ values. (only values, λ q. inl (is ∙ (end_found (settled_course s b) values).1 q));
        }
      where
        only : (values : List Bool) → (e ≡ found values) ⊎ FoundIn (since h) values → setting_at (settled_course s b) ≡ Some values
        only values (inl q) = (end_found (settled_course s b) values).0 (sym is ∙ q)
        only values (inr q) = still_found (size s) (rules s) b s.standing values ((c.same_found values).0 q)

    settled_right : (e : End) (k : ℕ) → e ≡ end_at (settled_course s b) → k ≡ settled_tries s b → SettledRight n rs b (b + before) e k
    settled_right e k is is-k =
        subst (λ x. SettledRight n rs b (b + before) x k) (sym (is ∙ ap end_at course_is))
        (settled_at n rs b (b + before) k (after n (system n rs) (b + before)) refl (answered n rs c.all_lawful (b + before))
        (λ going. is-k ∙ tries_are ∙ all_made (next_in n (system n rs)) b (after n (system n rs) before) (ap has_ended joins ∙ going)))

  -- the session after a call
  carried_on : (t : Session) (x : Entry) → Happens s x t → Carried m (x ∷ h) t
  unfolding Happens
  carried_on t x p = subst (Carried m (x ∷ h)) (sym p.1) (by x p.0)
    where
      by : (x : Entry) → Replies s x → Carried m (x ∷ h) (leaves s x)
      by (took kind es r) e = carried_took kind es r e
      by (freedom_told f) e = carried_idle (freedom_told f) refl refl (λ _ q. q)
      by (settled b e k) p = carried_settled b e k p.0
      by (copied old r new) e = carried_idle (copied old r new) refl refl (λ _ q. q)

  -- the law of the call
  call_right : (x : Entry) → Replies s x → Right m x h
  call_right (took kind es r) e = tt
  call_right (freedom_told f) e = tt
  call_right (settled b e k) p = settled_right b e k p.0 p.1
  call_right (copied old r new) p =
      let o = setting_of s.standing in
      let Found = FoundIn (since h) in
      let reply : r ≡ copy_reply m.switches o old = p.0 ∙ ap (λ k. copy_reply k o old) same_size in
      let bytes : new ≡ copy_bytes m.switches o old = p.1 ∙ ap (λ k. copy_bytes k o old) same_size in
      subst (λ y. CopiedRight m.switches Found old y new) (sym reply)
      (subst (λ y. CopiedRight m.switches Found old (copy_reply m.switches o old) y) (sym bytes) (copied_right m.switches Found old o c.same_found))

module _ (m : Meaning) (good : LawfulSheet m) where
  carried : (h : History) (s : Session) → Recorded m h s → Carried m h s
  unfolding Recorded
  carried [] s r = subst (Carried m []) (sym r) (carried_opened m good)
  carried (x ∷ h) s r = carried_on m h r.0 (carried h r.0 r.1) s x r.2

  all_right : (h : History) (s : Session) → Recorded m h s → Lawful m h
  unfolding Recorded Lawful Happens
  all_right [] s r = tt
  all_right (x ∷ h) s r = (call_right m h r.0 (carried h r.0 r.1) x r.2.0, all_right h r.0 r.1)

pub law : Law
law = all_right

pub opened_recorded : (m : Meaning) → Recorded m [] (opened m)
unfolding Recorded
opened_recorded m = refl

recorded_on : (m : Meaning) (h : History) (s t : Session) (x : Entry) → Recorded m h s → Happens s x t → Recorded m (x ∷ h) t
unfolding Recorded
recorded_on m h s t x r p = (s, r, p)

pub goes_on : (m : Meaning) → LawfulSheet m → (h : History) (s t : Session) (x : Entry) → Recorded m h s → Happens s x t → Recorded m (x ∷ h) t × Lawful m (x ∷ h)
goes_on m good h s t x r p = let on = recorded_on m h s t x r p in (on, all_right m good (x ∷ h) t on)

pub calls_lawful : CallsLawful
calls_lawful = record { opens = opened_recorded; goes_on = goes_on }
