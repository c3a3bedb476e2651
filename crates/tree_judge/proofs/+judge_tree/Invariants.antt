-- Each call is for one cut fewer.
use Rattle.tree_judge.proofs.+judge_tree.Given as goal

abbrev pub decreases-judge_tree : goal.decreases-judge_tree
decreases-judge_tree l = l.depth
