-- Calls one after the other.
use Rattle.std.proofs.Common.{◌≡◌, ℕ, ◌+◌, ◌<◌, List, [], ◌∷◌, ◌++◌, length, get_or, take, sym, refl, ap, ◌∙◌, subst}
use Rattle.std.proofs.lemmas.List.{take_more}
use Rattle.sheets.specs.Meaning.{Meaning, LawfulSheet}
use Rattle.session_theory.specs.Session.{Session, Entry, Happens}
use Rattle.session_theory.specs.Law.{History, Recorded}
use Rattle.session_theory.proofs.Laws.{law, goes_on}
use Rattle.session.specs.declared.call.Call.{Call}
use Rattle.session.specs.declared.call.Reply.{Reply}
use Rattle.session.specs.Drives.{IsEntry, Performs, Told, SoFar, Performed}

told_push : (cs : List Call) (rs : List Reply) (before h : History) (c : Call) (r : Reply) (x : Entry) → Told cs rs before h → IsEntry c r x → Told (cs ++ (c ∷ [])) (rs ++ (r ∷ [])) before (x ∷ h)
unfolding Told
told_push [] [] before h c r x t is = (x, is, ap (λ l. x ∷ l) t)
told_push [] (q ∷ rs) before h c r x t is = absurd t
told_push (d ∷ cs) [] before h c r x t is = absurd t
told_push (d ∷ cs) (q ∷ rs) before h c r x t is = (t.0, t.1, told_push cs rs (t.0 ∷ before) h c r x t.2 is)

pub one_performed : (s t : Session) (c d : Call) (r : Reply) (x : Entry) → c ≡ d → IsEntry d r x → Happens s x t → Performs s c r t
unfolding Performs
one_performed s t c d r x e is p = (x, subst (λ y. IsEntry y r x) (sym e) is, p)

pub none_so_far : (m : Meaning) (s : Session) → Recorded m [] s → SoFar m [] [] s
unfolding SoFar Told
none_so_far m s r = ([], refl, r)

pub more_so_far : (m : Meaning) → LawfulSheet m → (calls : List Call) (i : ℕ) (c d : Call) (rs : List Reply) (r : Reply) (s t : Session) → i < length calls → c ≡ get_or calls i d → SoFar m (take i calls) rs s → Performs s c r t → SoFar m (take (i + 1) calls) (rs ++ (r ∷ [])) t
unfolding SoFar Performs
more_so_far m good calls i c d rs r s t lt is (h, told, rec) (x, entry, p) =
    let all : take i calls ++ (c ∷ []) ≡ take (i + 1) calls = ap (λ y. take i calls ++ (y ∷ [])) is ∙ sym (take_more calls i d lt) in
    (x ∷ h, subst (λ l. Told l (rs ++ (r ∷ [])) [] (x ∷ h)) all (told_push (take i calls) rs [] h c r x told entry), (goes_on m good h s t x rec p).0)

pub all_performed : (m : Meaning) → LawfulSheet m → (calls : List Call) (rs : List Reply) (s : Session) → SoFar m calls rs s → Performed m calls rs
unfolding SoFar Performed
all_performed m good calls rs s (h, told, rec) = (h, s, told, rec, law m good h s rec)
