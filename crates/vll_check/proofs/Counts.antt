-- Each statement is one node and one level at least, and weighs 1 at least.
use Rattle.std.proofs.Common.{◌<◌, arith}
use Rattle.vll_check.proofs.Common.{Stmt, Let, stmt_depth, stmt_nodes, weight}

pub stmt_depth_positive : (st : Stmt) → 0 < stmt_depth st
stmt_depth_positive (Let i e) = omega arith
stmt_depth_positive other = omega arith

pub stmt_nodes_positive : (st : Stmt) → 0 < stmt_nodes st
stmt_nodes_positive (Let i e) = omega arith
stmt_nodes_positive other = omega arith

pub weight_positive : (st : Stmt) → 0 < weight st
weight_positive (Let i e) = omega arith
weight_positive other = omega arith
