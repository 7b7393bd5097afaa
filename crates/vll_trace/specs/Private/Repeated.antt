-- What two trees of scenarios have alike.
use Rattle.std.specs.Prelude.{◌≡◌, codes}
use Rattle.serde_json.specs.Data.{Data}
use Rattle.serde_json.specs.Find.{get}

-- two trees have the same members, but for the engine's settings and the schedule
pub record AreAlike (a b : Data) : Type 0 where
  pub version : get (codes "version") a ≡ get (codes "version") b
  pub records : get (codes "records") a ≡ get (codes "records") b
  pub procs : get (codes "procs") a ≡ get (codes "procs") b
  pub clients : get (codes "clients") a ≡ get (codes "clients") b
  pub hash : get (codes "hash") a ≡ get (codes "hash") b
