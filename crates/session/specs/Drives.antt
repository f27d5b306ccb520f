-- Calls and their replies as histories.
use Rattle.std.specs.Prelude.{◌≡◌, List, [], ◌∷◌, replicate, vec_items}
use Rattle.sheets.specs.Meaning.{Meaning}
use Rattle.session_theory.specs.Session.{Session, Entry, took, freedom_told, copied, Happens}
use Rattle.session_theory.specs.Law.{History, Recorded, Lawful}
use Rattle.session.specs.declared.call.Call.{Call}
use Rattle.session.specs.declared.call.Call.TheVariants.{Take, Freedom, Settle, Copy}
use Rattle.session.specs.declared.call.Reply.{Reply}
use Rattle.session.specs.declared.call.Reply.TheVariants.{Took, Free, Settled, Copied}
use Rattle.session.specs.Ends.{settle_entry}

-- x is the call with its reply; a reply to another call makes no entry
abbrev pub IsEntry : Call → Reply → Entry → Type 0
IsEntry (Take rule) (Took r) x = x ≡ took rule.kind (vec_items rule.entries) r
IsEntry Freedom (Free f) x = x ≡ freedom_told f
IsEntry (Settle b) (Settled r) x = x ≡ settle_entry b r
IsEntry (Copy k) (Copied r bytes) x = x ≡ copied (replicate k 0) r (vec_items bytes)
IsEntry _ _ x = ⊥

-- at s the call gets the reply, and leaves t
unfoldable pub Performs : Session → Call → Reply → Session → Type 0
Performs s c r t = (x : Entry) × IsEntry c r x × Happens s x t

-- h is the history before, continued by the calls and their replies in their order
unfoldable pub Told : List Call → List Reply → History → History → Type 0
Told [] [] before h = h ≡ before
Told [] (r ∷ rs) before h = ⊥
Told (c ∷ cs) [] before h = ⊥
Told (c ∷ cs) (r ∷ rs) before h = (x : Entry) × IsEntry c r x × Told cs rs (x ∷ before) h

-- the calls, made one after the other on a session that was opened over m, got the replies and left s
unfoldable pub SoFar : Meaning → List Call → List Reply → Session → Type 0
SoFar m cs rs s = (h : History) × Told cs rs [] h × Recorded m h s

-- and all of them are lawful
unfoldable pub Performed : Meaning → List Call → List Reply → Type 0
Performed m cs rs = (h : History) × (s : Session) × Told cs rs [] h × Recorded m h s × Lawful m h
