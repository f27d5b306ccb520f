use Rattle.search_theory.proofs.Bounds.{reach_most, due_fewer}
use Rattle.search_theory.proofs.tries_bounded.Goals as goal

pub returns : goal.returns
returns c = record { most = λ n k system. reach_most n system k; fewer = λ n k system. due_fewer n system k }
