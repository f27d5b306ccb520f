use Rattle.std.proofs.Common.{◌≡◌, ◌+◌, Ok, Err, MatchResult, sym, ap, ◌∙◌, add-zero, rules}
use Rattle.std.specs.Result.{IsErrAnd}
use Rattle.std.proofs.lemmas.List.{take_rest}
use Rattle.std.proofs.lemmas.Result.{err_from_is_err_and}
use Rattle.rules.specs.declared.faults.Cause.TheVariants.{RuleCount}
use Rattle.files.specs.Files.{file_fault}
use Rattle.files.proofs.Steps.{at_good_end, at_bad_end, at_limit, at_flaw, at_rule}
use Rattle.files.proofs.sequence.Records.next_rule.Goals as goal

pub returns-in_err-check_end-clause-whole : goal.returns-in_err-check_end-clause-whole
returns-in_err-check_end-clause-whole g c =
    let p = err_from_is_err_and c.from_residual.result c.from_residual.ensures.1 in
    rw (p.1, p.2) (at_bad_end _ c.args.self.now _ (sym c.in_default.ensures) c.in_err-check_end.ensures)

pub returns-in_default-clause-whole : goal.returns-in_default-clause-whole
returns-in_default-clause-whole g c = at_good_end _ c.args.self.now (sym c.in_default.ensures) c.in_ok-check_end.ensures

pub returns-then-self-ge-MAX_RULES-clause-whole : goal.returns-then-self-ge-MAX_RULES-clause-whole
returns-then-self-ge-MAX_RULES-clause-whole g c =
    at_limit _ c.args.self.now _ (sym c.in-Some.ensures) c.if-self-ge-MAX_RULES.true
    ∙ ap (λ p. Err (file_fault RuleCount c.args.self.now.rules p)) (sym (add-zero c.args.self.now.place)) ∙ ap Err (sym c.fault.ensures)

pub returns-in_err-record-clause-whole : goal.returns-in_err-record-clause-whole
returns-in_err-record-clause-whole g c =
    let r = c.args.self.now in
    let told : MatchResult c.in-Some.found (λ x. c.map_err.result ≡ Ok x) (λ x. IsErrAnd c.map_err.result (λ d. d ≡ file_fault x.cause r.rules (r.place + x.offset))) = search rules in
    let p = err_from_is_err_and c.from_residual-in_err-record.result c.from_residual-in_err-record.ensures.1 in
    rw (p.1, p.2) (at_flaw g.G.Generation.format r _ _ _ c.in-Some.ensures told c.in_err-record.was c.if-self-ge-MAX_RULES.false)

pub returns-clause-whole : goal.returns-clause-whole
returns-clause-whole g c =
    let r = c.args.self.now in
    let told : MatchResult c.in-Some.found (λ x. c.map_err.result ≡ Ok x) (λ x. IsErrAnd c.map_err.result (λ d. d ≡ file_fault x.cause r.rules (r.place + x.offset))) = search rules in
    at_rule g.G.Generation.format r _ _ _ _ c.in-Some.ensures told c.in_ok-record.was (take_rest r.rest.now c.in_ok-record.record.size) c.if-self-ge-MAX_RULES.false
