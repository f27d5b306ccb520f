use Rattle.std.proofs.Common.{sym, refl, ap, ◌∙◌, ap₂, arith}
use Rattle.std.proofs.lemmas.List.{take_at}
use Rattle.session_theory.specs.Session.{took, freedom_told, copied}
use Rattle.session.specs.declared.call.Call.TheVariants.{Take, Freedom, Settle, Copy}
use Rattle.session.specs.declared.call.Reply.TheVariants.{Took, Free, Settled}
use Rattle.session.specs.Ends.{settle_entry}
use Rattle.session.specs.Sessions.{session_of}
use Rattle.session.proofs.Drives.{one_performed}
use Rattle.session.proofs.driver.call_once.Goals as goal

pub returns-in-Take : goal.returns-in-Take
returns-in-Take c =
    let rule = c.in-Take.rule in
    let r = c.take.result in
    one_performed (session_of c.args.session.now) (session_of c.take.new.self) c.args.call.now (Take rule) (Took r) (took rule.kind c.as_slice.result.now r) c.in-Take.is
    (ap (λ es. took rule.kind es r) c.as_slice.ensures.value) c.take.ensures.happens

pub returns-in-Freedom : goal.returns-in-Freedom
returns-in-Freedom c =
    let s = session_of c.args.session.now in
    let r = c.freedom.result in
    one_performed s s c.args.call.now Freedom (Free r) (freedom_told r) c.in-Freedom.is refl c.freedom.ensures.happens

pub returns-in-Settle : goal.returns-in-Settle
returns-in-Settle c =
    let r = c.settle.result in
    let b = c.in-Settle.budget in
    one_performed (session_of c.args.session.now) (session_of c.settle.new.self) c.args.call.now (Settle b) (Settled r) (settle_entry b r) c.in-Settle.is refl c.settle.ensures.happens

pub returns-in_ok-bytes-in-Copy : goal.returns-in_ok-bytes-in-Copy
returns-in_ok-bytes-in-Copy c =
    let s = session_of c.args.session.now in
    let r = c.copy-reply.result in
    let old = c.as_mut_slice.ensures.value ∙ c.in_ok-bytes-in-Copy.ensures.items_if_clones_equal (λ y e. e) in
    let new = c.copy-reply.new.out in
    one_performed s s c.args.call.now (Copy c.in-Copy.length) _ (copied c.as_mut_slice.result.now r new) c.in-Copy.is
    (ap₂ (λ a b. copied a r b) old (sym (take_at new _ c.in_ok-bytes-in-Copy.bytes.len (omega arith)))) c.copy-reply.ensures.happens
