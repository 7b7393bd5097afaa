-- What an engine's name states, and what contracts see of an opening and of a session.
use Rattle.std.specs.Prelude.{ℕ, List, [], Option, Some, None}
use Rattle.atomic_table.specs.Seated.{TableId}
use Rattle.vll_check.specs.Headline.Catalog.{Catalog}
use Rattle.vll_core.specs.declared.config.Config.{Config}
use Rattle.vll_core.specs.Headline.State.{Base, catalog_of}
use Rattle.vll_counters.specs.Shown.{WordsShown, SessionShown}
use Rattle.vll_counters.specs.Steps.{new_session}

-- which words an engine has, the procedures and records it was opened with, its configuration, the places that its hash
-- gives to records, and the number of its clients
pub record Named : Type 0 where
  pub table : TableId
  pub base : Base
  pub config : Config
  pub places : ℕ → ℕ
  pub clients : ℕ

-- the words of an engine
abbrev pub words_of : Named → WordsShown
words_of e = record { table = e.table; base = e.base }

-- the library of an engine: its procedures, checked for its number of records
abbrev pub library_of : Named → Catalog
library_of e = catalog_of e.base

-- the name of no words
abbrev pub no_table : TableId
no_table = record { words = 0; slots = 0; views_name = 0; atom = 0; block = 0; offset = 0; slot_names = [] }

-- the name of no engine
abbrev pub no_engine : Named
no_engine = record {
  table = no_table;
  base = record { procs = []; records = [] };
  config = record { cap = 0; limit = 0; bits = 0 };
  places = λ r. r;
  clients = 0;
}

-- which words an opening has, and what it was made with: the library, the records, the configuration, the hash, and the
-- number of clients
pub record OpeningShown (H : Type 0) : Type 0 where
  pub table : TableId
  pub library : Catalog
  pub records : List ℕ
  pub config : Config
  pub hash : H
  pub clients : ℕ

-- an opening of these words, made with these arguments
abbrev pub opening : {H : Type 0} → TableId → Catalog → List ℕ → Config → H → ℕ → OpeningShown H
opening table library records config hash clients =
    record { table = table; library = library; records = records; config = config; hash = hash; clients = clients }

-- the name of an opening; of the hash it has only the places
abbrev pub name_of : {H : Type 0} → (H → ℕ → ℕ) → OpeningShown H → Named
name_of place o = record {
  table = o.table;
  base = record { procs = o.library.procs; records = o.records };
  config = o.config;
  places = place o.hash;
  clients = o.clients;
}

-- what contracts see of a session while its seat is there, as it always is between two calls
abbrev pub shown_in : Option SessionShown → SessionShown
shown_in (Some s) = s
shown_in None = record { table = no_table; session = new_session 0; past = [] }
