-- Which seat has which client's session, and what it has seen, after each kind of change.
use Rattle.std.proofs.Common.{◌≡◌, ◌≢◌, ℕ, suc, ◌<◌, ◌==◌, List, [], ◌∷◌, ◌++◌, length, set, sym, ap, ◌∙◌, subst, arith, Some, None, ⊎_elim, append_assoc, cond}
use Rattle.vll_counters.proofs.Common.{ne_eqb, cond-false, append-nil, same_Some, filter, map, slice_get, Bool, true, false, at_set, Call, Made, Status, Gone, SessionView, View, calls_by, Begins, session_in, HasSeen, IsSession, AreSessions}
use mathlib.Core.Option.{some}
use lib.ListN.{get_elem?}
use Rattle.vll_counters.proofs.Places.{no_some, at_end, get_longer, seat_with, seat_here, seat_else}

-- ---- a fact of each session at each seat

pub each_set : (P : ℕ → SessionView → Type 0) (views : List View) (by : ℕ) (w : View)
    → ((g : SessionView) → session_in w ≡ Some g → P by g)
    → ((j : ℕ) (v : View) (g : SessionView) → j ≢ by → get_elem? views j ≡ some v → session_in v ≡ Some g → P j g)
    → (j : ℕ) (v : View) (g : SessionView) → get_elem? (set views by w) j ≡ some v → session_in v ≡ Some g → P j g
each_set P views by w here others j v g e has = ⊎_elim
    (λ (h : (j ≡ by) × (w ≡ v)). subst (λ (n : ℕ). P n g) (sym h.0) (here g (ap session_in h.1 ∙ has)))
    (λ (h : (j ≢ by) × (get_elem? views j ≡ some v)). others j v g h.0 h.1 has)
    (at_set views by j w v e)

pub each_pushed : (P : ℕ → SessionView → Type 0) (views : List View) (w : View)
    → ((g : SessionView) → session_in w ≡ Some g → P (length views) g)
    → ((j : ℕ) (v : View) (g : SessionView) → get_elem? views j ≡ some v → session_in v ≡ Some g → P j g)
    → (j : ℕ) (v : View) (g : SessionView) → get_elem? (views ++ w ∷ []) j ≡ some v → session_in v ≡ Some g → P j g
each_pushed P views w here others j v g e has = ⊎_elim
    (λ (h : get_elem? views j ≡ some v). others j v g h has)
    (λ (h : (j ≡ length views) × (w ≡ v)). subst (λ (n : ℕ). P n g) (sym h.0) (here g (ap session_in h.1 ∙ has)))
    (at_end views w v j e)

-- ---- what a session has seen

-- what begins a list begins each longer one
begins_longer : (seen all : List Made) (m : Made) → Begins seen all → Begins seen (all ++ m ∷ [])
begins_longer seen all m b = (b.0 ++ m ∷ [], ap (λ (l : List Made). l ++ m ∷ []) b.1 ∙ append_assoc seen b.0 (m ∷ []))

pub begins_all : (all : List Made) → Begins all all
begins_all all = ([], sym (append-nil all))

-- a call of another client
other_calls : (client : ℕ) (all : List Made) (m : Made) → m.0 ≢ client → calls_by client (all ++ m ∷ []) ≡ calls_by client all
other_calls client [] m apart = ap (λ (l : List Made). map (λ (x : Made). x.1) l) (cond-false (m.0 == client) (m ∷ []) [] (ne_eqb m.0 client apart))
other_calls client (x ∷ xs) m apart = by_client (x.0 == client) (other_calls client xs m apart)
  where
    by_client : (b : Bool) → calls_by client (xs ++ m ∷ []) ≡ calls_by client xs
        → map (λ (y : Made). y.1) (cond b (x ∷ filter (λ (y : Made). y.0 == client) (xs ++ m ∷ [])) (filter (λ (y : Made). y.0 == client) (xs ++ m ∷ [])))
        ≡ map (λ (y : Made). y.1) (cond b (x ∷ filter (λ (y : Made). y.0 == client) xs) (filter (λ (y : Made). y.0 == client) xs))
    by_client true rest = ap (λ (l : List Call). x.1 ∷ l) rest
    by_client false rest = rest

-- one more call of another client enters
pub seen_longer : (calls : List Made) (statuses : List Status) (m : Made) (status : Status) (g : SessionView) → m.0 ≢ g.client → HasSeen calls statuses g → HasSeen (calls ++ m ∷ []) (statuses ++ status ∷ []) g
seen_longer calls statuses m status g apart h = record {
  begins = begins_longer g.seen calls m h.begins;
  own = h.own ∙ sym (other_calls g.client calls m apart);
  given = λ k t at. get_longer statuses (status ∷ []) t Gone (h.given k t at);
}

-- statuses change, and what is gone stays so
pub seen_kept : (calls : List Made) (old new : List Status) (g : SessionView) → ((t : ℕ) → slice_get old t ≡ Some Gone → slice_get new t ≡ Some Gone) → HasSeen calls old g → HasSeen calls new g
seen_kept calls old new g stays h = record { begins = h.begins; own = h.own; given = λ k t at. stays t (h.given k t at) }

-- a session that has seen all calls
pub seen_all : (calls : List Made) (statuses : List Status) (g : SessionView) → g.seen ≡ calls → ((k t : ℕ) → slice_get g.given k ≡ Some t → slice_get statuses t ≡ Some Gone) → HasSeen calls statuses g
seen_all calls statuses g whole gone = record {
  begins = subst (λ (l : List Made). Begins l calls) (sym whole) (begins_all calls);
  own = ap (calls_by g.client) whole;
  given = gone;
}

-- ---- which seat has which session

module _ (calls : List Made) (statuses : List Status) (clients : ℕ) (f : ℕ → ℕ) (views : List View) where
  -- a seat's view changes, and its session stays
  pub sessions_reviewed : (by : ℕ) (v w : View) → get_elem? views by ≡ some v → session_in w ≡ session_in v → AreSessions calls statuses clients f views → AreSessions calls statuses clients f (set views by w)
  sessions_reviewed by v w at same s =
      each_set (λ n x. IsSession calls statuses clients f n x) views by w (λ x has. s by v x at (sym same ∙ has)) (λ n y x away there has. s n y x there has)

  -- the session at a seat sees more
  pub sessions_told : (by : ℕ) (v w : View) (g y : SessionView) → get_elem? views by ≡ some v → session_in v ≡ Some g → session_in w ≡ Some y → y.client ≡ g.client → HasSeen calls statuses y
      → AreSessions calls statuses clients f views → AreSessions calls statuses clients f (set views by w)
  sessions_told by v w g y at has now client seen s =
      let mine = s by v g at has in
      each_set (λ n b. IsSession calls statuses clients f n b) views by w
      (λ b h. subst (λ (d : SessionView). IsSession calls statuses clients f by d) (same_Some y b (sym now ∙ h))
      (record { there = ap f client ∙ mine.there; client = subst (λ (n : ℕ). n < clients) (sym client) mine.client; has_seen = seen }))
      (λ n b z away there is. s n b z there is)

  -- a new seat has no session
  pub sessions_pushed : (w : View) → session_in w ≡ None → AreSessions calls statuses clients f views → AreSessions calls statuses clients f (views ++ w ∷ [])
  sessions_pushed w none s = each_pushed (λ n x. IsSession calls statuses clients f n x) views w (λ x has. no_some x (sym none ∙ has)) s

  -- statuses change, and what is gone stays so
  pub sessions_kept : (new : List Status) → ((t : ℕ) → slice_get statuses t ≡ Some Gone → slice_get new t ≡ Some Gone) → AreSessions calls statuses clients f views → AreSessions calls new clients f views
  sessions_kept new stays s n v g at has = let o = s n v g at has in record { there = o.there; client = o.client; has_seen = seen_kept calls statuses new g stays o.has_seen }

  -- a call of the session at one seat enters, and it has seen all
  pub sessions_entered : (by : ℕ) (v w : View) (g h : SessionView) (m : Made) (status : Status) → get_elem? views by ≡ some v → session_in v ≡ Some g → g.client ≡ m.0
      → session_in w ≡ Some h → h.client ≡ g.client → h.seen ≡ calls ++ m ∷ [] → h.given ≡ g.given
      → AreSessions calls statuses clients f views → AreSessions (calls ++ m ∷ []) (statuses ++ status ∷ []) clients f (set views by w)
  sessions_entered by v w g h m status at has own now client whole given s =
      let mine = s by v g at has in
      each_set (λ n y. IsSession (calls ++ m ∷ []) (statuses ++ status ∷ []) clients f n y) views by w
      (λ y is. subst (λ (z : SessionView). IsSession (calls ++ m ∷ []) (statuses ++ status ∷ []) clients f by z) (same_Some h y (sym now ∙ is))
      (record {
        there = ap f client ∙ mine.there;
        client = subst (λ (n : ℕ). n < clients) (sym client) mine.client;
        has_seen = seen_all (calls ++ m ∷ []) (statuses ++ status ∷ []) h whole
            (λ k t e. get_longer statuses (status ∷ []) t Gone (mine.has_seen.given k t (ap (λ (l : List ℕ). slice_get l k) (sym given) ∙ e)));
      }))
      (λ n z y away there is.
      let o = s n z y there is in
      let apart : m.0 ≢ y.client = λ e. away (sym o.there ∙ ap f (sym (own ∙ e)) ∙ mine.there) in
      record { there = o.there; client = o.client; has_seen = seen_longer calls statuses m status y apart o.has_seen })

  -- what another seat has is another client's
  moved_else : (c by n : ℕ) (y : SessionView) → y.client ≢ c → IsSession calls statuses clients f n y → IsSession calls statuses clients (seat_with f c by) n y
  moved_else c by n y apart o = record { there = seat_else f c by y.client apart ∙ o.there; client = o.client; has_seen = o.has_seen }

  -- a session goes from one seat to another
  pub sessions_come : (by other : ℕ) (v w u x : View) (g : SessionView)
      → get_elem? views by ≡ some v → session_in v ≡ None → session_in w ≡ Some g → other ≢ by → get_elem? views other ≡ some u → session_in u ≡ Some g → session_in x ≡ None
      → AreSessions calls statuses clients f views → AreSessions calls statuses clients (seat_with f g.client by) (set (set views by w) other x)
  sessions_come by other v w u x g at none now apart there has gone s =
      let mine = s other u g there has in
      let new = seat_with f g.client by in
      each_set (λ n r. IsSession calls statuses clients new n r) (set views by w) other x
      (λ r h. no_some r (sym gone ∙ h))
      (λ n q r away e h. each_set (λ k b. k ≢ other → IsSession calls statuses clients new k b) views by w
      (λ b h' _. subst (λ (d : SessionView). IsSession calls statuses clients new by d) (same_Some g b (sym now ∙ h'))
      (record { there = seat_here f g.client by; client = mine.client; has_seen = mine.has_seen }))
      (λ k m b _ e' h' off. let o = s k m b e' h' in moved_else g.client by k b (λ (d : b.client ≡ g.client). off (sym o.there ∙ ap f d ∙ mine.there)) o)
      n q r e h away)

  -- the session at one seat leaves for a new one, and may know more
  pub sessions_left : (by : ℕ) (v w x : View) (g y : SessionView)
      → get_elem? views by ≡ some v → session_in v ≡ Some g → session_in w ≡ None → session_in x ≡ Some y → y.client ≡ g.client → HasSeen calls statuses y
      → AreSessions calls statuses clients f views → AreSessions calls statuses clients (seat_with f g.client (length (set views by w))) (set views by w ++ x ∷ [])
  sessions_left by v w x g y at has gone now client seen s =
      let mine = s by v g at has in
      let to = length (set views by w) in
      let new = seat_with f g.client to in
      each_pushed (λ n b. IsSession calls statuses clients new n b) (set views by w) x
      (λ b h. subst (λ (d : SessionView). IsSession calls statuses clients new to d) (same_Some y b (sym now ∙ h))
      (record { there = ap new client ∙ seat_here f g.client to; client = subst (λ (n : ℕ). n < clients) (sym client) mine.client; has_seen = seen }))
      (each_set (λ k d. IsSession calls statuses clients new k d) views by w
      (λ d h'. no_some d (sym gone ∙ h'))
      (λ k m d off e' h'. let o = s k m d e' h' in moved_else g.client to k d (λ (e : d.client ≡ g.client). off (sym o.there ∙ ap f e ∙ mine.there)) o))

  -- a new client's session, which has seen nothing
  pub sessions_made : (x : View) (y : SessionView) → session_in x ≡ Some y → y.client ≡ clients → HasSeen calls statuses y
      → AreSessions calls statuses clients f views → AreSessions calls statuses (suc clients) (seat_with f clients (length views)) (views ++ x ∷ [])
  sessions_made x y now client seen s =
      let new = seat_with f clients (length views) in
      each_pushed (λ n b. IsSession calls statuses (suc clients) new n b) views x
      (λ b h. subst (λ (d : SessionView). IsSession calls statuses (suc clients) new (length views) d) (same_Some y b (sym now ∙ h))
      (record { there = ap new client ∙ seat_here f clients (length views); client = omega (arith, client); has_seen = seen }))
      (λ n v g at has. let o = s n v g at has in let low = o.client in
      record { there = seat_else f clients (length views) g.client (λ e. omega (arith, low, e)) ∙ o.there; client = omega (arith, low); has_seen = o.has_seen })
