use Rattle.std.proofs.Common.{◌≡◌, take}
use Rattle.rules.specs.Views.{literals_of}
use Rattle.writer.proofs.Values.{whole}
use Rattle.writer.proofs.patterns.clause_against.Given as goal

abbrev pub invariant-loop-j : goal.invariant-loop-j
invariant-loop-j l = record {
  width : l.clause.width ≡ l.j;
  literals : literals_of l.clause ≡ take l.j (whole l.switches l.pattern);
}
