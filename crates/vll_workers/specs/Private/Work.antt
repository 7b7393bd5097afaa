-- What a worker has in hand while it works.
use Rattle.std.specs.Prelude.{◌<◌, ◌++◌, List, All}
use Rattle.atomic_table.specs.Seated.{TableId}
use Rattle.crossbeam_queue.specs.Passes.{view}
use Rattle.vll_tokens.specs.Pool.{HasInHand, Working}
use Rattle.vll_tokens.specs.Shown.{TokenShown}
use Rattle.vll_tokens.specs.Tokens.{IsOf}

-- the worker has a part, and in hand just the tokens that it has taken and those that it keeps
pub record IsAtWork (handed : List TokenShown) (table : TableId) (worker : Working) (taken : List TokenShown) : Type 0 where
  pub hand : HasInHand table worker.pass (taken ++ worker.kept)
  pub own : All (IsOf handed) taken
  pub part : 0 < (view worker.pass).parts
