-- What a call does depends on the values at its claims alone: both lists of records are held by one list of cells.
use Rattle.std.proofs.Common.{◌≡◌, ℕ, ◌≤◌, List, length, map, Result, Ok, Err, Some, slice_get, slice_index, sym, ap, ◌∙◌, arith}
use Rattle.vll_proc.proofs.Common.{get_or-map, length-map, slice_get_within, get_or_from_slice_get, Claim, Call, Reason, Proc, AgreeAt, IsCallOf, Scene, After, applied, IsWellFormed}
use Rattle.vll_proc.proofs.Runs.{ToldBy, cell_body, told_on}

-- the cells of the claims, as a list of records has them
cells_of : List ℕ → List Claim → List ℕ
cells_of records claims = map (λ (c : Claim). slice_index records c.id) claims

slice_index-cells : (records : List ℕ) (claims : List Claim) (i : ℕ) (c : Claim) → slice_get claims i ≡ Some c → slice_index (cells_of records claims) i ≡ slice_index records c.id
unfolding cells_of
slice_index-cells records claims i c is =
    get_or-map (λ (d : Claim). slice_index records d.id) claims i c 0 (slice_get_within claims i c is)
    ∙ ap (λ (d : Claim). slice_index records d.id) (get_or_from_slice_get claims i c c is)

room : (records : List ℕ) (claims : List Claim) → length claims ≤ length (cells_of records claims)
unfolding cells_of
room records claims = omega (arith, length-map claims (λ (c : Claim). slice_index records c.id))

-- two ends on records that follow from one end on cells
SameEnd : List Claim → After → After → Type 0
SameEnd claims a b = (a.reply ≡ b.reply) × AgreeAt claims a.records b.records

same_end : (cells : List ℕ) (claims : List Claim) (r : Result Scene Reason) (a b : After) → ToldBy cells claims r a → ToldBy cells claims r b → SameEnd claims a b
unfolding SameEnd
same_end cells claims (Ok s) a b p q = (p.0 ∙ sym q.0, λ i c is. ((p.1 i c is).0, (q.1 i c is).0, sym (p.1 i c is).1 ∙ (q.1 i c is).1))
same_end cells claims (Err why) a b p q = (p.0 ∙ sym q.0, λ i c is. ((p.1 i c is).0, (q.1 i c is).0, sym (p.1 i c is).1 ∙ (q.1 i c is).1))

local : (p : Proc) (c : Call) (m n : List ℕ) → IsWellFormed p → IsCallOf (length m) p c → IsCallOf (length n) p c → AgreeAt c.claims m n → SameEnd c.claims (applied p c m) (applied p c n)
local p c m n formed by_m by_n agree =
    let cells : List ℕ = cells_of m c.claims in
    same_end cells c.claims (cell_body p c cells) (applied p c m) (applied p c n)
    (told_on p c cells m formed by_m (room m c.claims) (λ i d is. ((agree i d is).0, slice_index-cells m c.claims i d is)))
    (told_on p c cells n formed by_n (room m c.claims) (λ i d is. ((agree i d is).1, slice_index-cells m c.claims i d is ∙ (agree i d is).2)))

pub same_reply : (p : Proc) (c : Call) (m n : List ℕ) → IsWellFormed p → IsCallOf (length m) p c → IsCallOf (length n) p c → AgreeAt c.claims m n → (applied p c m).reply ≡ (applied p c n).reply
unfolding SameEnd
same_reply p c m n formed by_m by_n agree = (local p c m n formed by_m by_n agree).0

pub same_values : (p : Proc) (c : Call) (m n : List ℕ) → IsWellFormed p → IsCallOf (length m) p c → IsCallOf (length n) p c → AgreeAt c.claims m n → AgreeAt c.claims (applied p c m).records (applied p c n).records
unfolding SameEnd
same_values p c m n formed by_m by_n agree = (local p c m n formed by_m by_n agree).1
