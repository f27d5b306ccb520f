use Rattle.search_theory.proofs.Passing.{none_passed, nothing_keeps}
use Rattle.search_theory.proofs.Finding.{found_right}
use Rattle.search_theory.proofs.ends_right.Goals as goal

pub returns : goal.returns
returns c =
    record {
      at_found = λ n k system ts s red r. found_right n k system ts red r s;
      at_nothing = λ n k system ts r e s keeps. nothing_keeps n system s keeps k ts r e;
      none_passed = λ n k system ts r s keeps. none_passed n system s keeps k ts r;
    }
