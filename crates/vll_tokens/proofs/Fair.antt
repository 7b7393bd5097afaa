-- Each step of the pool keeps its rule.
use Rattle.std.proofs.Common.{◌≡◌, ◌≢◌, ℕ, zero, suc, ◌+◌, ◌<◌, ◌≤◌, ⊎_elim, List, [], ◌∷◌, ◌++◌, length, set, refl, sym, ap, ◌∙◌, arith}
use Rattle.std.specs.Prelude.{sum_by}
use Rattle.std.proofs.lemmas.List.{length-map, map-append}
use Rattle.std.proofs.lemmas.List.Sums.{sum_by-append, sum_by-cons, sum_by_push}
use mathlib.Core.Option.{some, some-injective, some-ne-none}
use lib.ListN.{get_elem?}
use Rattle.crossbeam_queue.proofs.Lists.{at_set, at_snoc, set_else}
use Rattle.crossbeam_queue.specs.Fifo.{Forks, Learns, Merges, Pops, Pushes}
use Rattle.vll_tokens.specs.declared.pool.Hand.{Hand}
use Rattle.vll_tokens.specs.Pool.{AreAll, HoldsOne, IdleIsEmpty, IsFair, IsPut, IsTaken, all_parts, hand, hired, joined, new_hand}
use Rattle.vll_tokens.specs.Shown.{TokenShown}
use Rattle.vll_tokens.specs.Tokens.{clients_of}
use Rattle.vll_tokens.proofs.Same.{counts}

-- what a pass's tokens weigh
abbrev held : (ℕ → ℕ) → Hand → ℕ
held h v = sum_by h v.holds

abbrev parts_of : Hand → ℕ
parts_of v = v.parts

total_set : (f : Hand → ℕ) (views : List Hand) (pass : ℕ) (v w : Hand) → get_elem? views pass ≡ some v → sum_by f (set views pass w) + f v ≡ sum_by f views + f w
total_set f [] pass v w at = absurd (some-ne-none v (sym at))
total_set f (x ∷ xs) zero v w at =
    let is : f x ≡ f v = ap f (some-injective x v at) in let a = sum_by-cons f w xs in let b = sum_by-cons f x xs in omega (arith, is, a, b)
total_set f (x ∷ xs) (suc pass) v w at =
    let r = total_set f xs pass v w at in let a = sum_by-cons f x (set xs pass w) in let b = sum_by-cons f x xs in omega (arith, r, a, b)

total_least : (f : Hand → ℕ) (views : List Hand) (pass : ℕ) (v : Hand) → get_elem? views pass ≡ some v → f v ≤ sum_by f views
total_least f [] pass v at = absurd (some-ne-none v (sym at))
total_least f (x ∷ xs) zero v at = let is : f x ≡ f v = ap f (some-injective x v at) in let b = sum_by-cons f x xs in omega (arith, is, b)
total_least f (x ∷ xs) (suc pass) v at = let r = total_least f xs pass v at in let b = sum_by-cons f x xs in omega (arith, r, b)

idle_set : (views : List Hand) (pass : ℕ) (w : Hand) → (w.parts ≡ 0 → w.holds ≡ []) → IdleIsEmpty views → IdleIsEmpty (set views pass w)
idle_set views pass w mine idle j u at none = ⊎_elim
    (λ (here : (j ≡ pass) × (w ≡ u)). ap (λ (y : Hand). y.holds) (sym here.1) ∙ mine (ap (λ (y : Hand). y.parts) here.1 ∙ none))
    (λ (other : (j ≢ pass) × (get_elem? views j ≡ some u)). idle j u other.1 none)
    (at_set views pass j w u at)

idle_more : (views : List Hand) (w : Hand) → (w.parts ≡ 0 → w.holds ≡ []) → IdleIsEmpty views → IdleIsEmpty (views ++ w ∷ [])
idle_more views w mine idle j u at none = ⊎_elim
    (λ (there : get_elem? views j ≡ some u). idle j u there none)
    (λ (last : w ≡ u). ap (λ (y : Hand). y.holds) (sym last) ∙ mine (ap (λ (y : Hand). y.parts) last ∙ none))
    (at_snoc views w u j at)

none_hold : (h : ℕ → ℕ) (views : List Hand) → sum_by parts_of views ≡ 0 → IdleIsEmpty views → sum_by (held h) views ≡ 0
none_hold h [] none idle = refl
none_hold h (x ∷ xs) none idle =
    let p = sum_by-cons parts_of x xs in let q = sum_by-cons (held h) x xs in
    let empty : held h x ≡ 0 = ap (sum_by h) (idle 0 x refl (omega (arith, p, none))) in
    let r = none_hold h xs (omega (arith, p, none)) (λ j. idle (suc j)) in omega (arith, q, empty, r)

-- the pass that has every part has all that is in any hand
alone : (h : ℕ → ℕ) (views : List Hand) (pass : ℕ) (v : Hand) → get_elem? views pass ≡ some v → sum_by parts_of views ≡ v.parts → IdleIsEmpty views → sum_by (held h) views ≡ held h v
alone h [] pass v at all idle = absurd (some-ne-none v (sym at))
alone h (x ∷ xs) zero v at all idle =
    let p = sum_by-cons parts_of x xs in let q = sum_by-cons (held h) x xs in
    let parts : x.parts ≡ v.parts = ap parts_of (some-injective x v at) in
    let is : held h x ≡ held h v = ap (held h) (some-injective x v at) in
    let r = none_hold h xs (omega (arith, p, parts, all)) (λ j. idle (suc j)) in omega (arith, q, is, r)
alone h (x ∷ xs) (suc pass) v at all idle =
    let p = sum_by-cons parts_of x xs in let q = sum_by-cons (held h) x xs in
    let least = total_least parts_of xs pass v at in
    let empty : held h x ≡ 0 = ap (sum_by h) (idle 0 x refl (omega (arith, p, least, all))) in
    let r = alone h xs pass v at (omega (arith, p, least, all)) (λ j. idle (suc j)) in omega (arith, q, empty, r)

-- a token after others
clients_push : (h : ℕ → ℕ) (items : List TokenShown) (x : TokenShown) → sum_by h (clients_of (items ++ x ∷ [])) ≡ sum_by h (clients_of items) + h x.client
clients_push h items x = ap (sum_by h) (map-append (λ (t : TokenShown). t.client) items (x ∷ [])) ∙ sum_by_push h (clients_of items) x.client

module _ (tokens : List TokenShown) where
  abbrev Fair : List TokenShown → List Hand → Type 0
  Fair = IsFair (clients_of tokens)

  pub begins : Fair [] (hand all_parts (clients_of tokens) ∷ [])
  begins = record { each = λ h. omega arith; parts = refl; idle = first }
    where
      first : (pass : ℕ) (v : Hand) → get_elem? (hand all_parts (clients_of tokens) ∷ []) pass ≡ some v → v.parts ≡ 0 → v.holds ≡ []
      first zero v at none = let is : all_parts ≡ v.parts = ap parts_of (some-injective (hand all_parts (clients_of tokens)) v at) in absurd (omega (arith, is, none))
      first (suc pass) v at none = absurd (some-ne-none v (sym at))

  pub puts : (n pass : ℕ) (v : Hand) (x : TokenShown) → HoldsOne v.holds x.client → 0 < v.parts → Pushes Fair n pass v x (IsPut x.client v)
  puts n pass v x one part items views room fair at =
      let w : Hand = hand v.parts one.others in
      let p = total_set parts_of views pass v w at in let k = fair.parts in (
        w,
        record {
          each = λ h. let s = total_set (held h) views pass v w at in let q = clients_push h items x in let e = fair.each h in
              let o = one.same h in let c = sum_by-cons h x.client one.others in omega (arith, s, q, e, o, c);
          parts = omega (arith, p, k);
          idle = idle_set views pass w (λ none. absurd (omega (arith, none, part))) fair.idle;
        },
        record { parts = refl; holds = one.same },
      )

  -- the tokens in one hand are no more than all
  pub few : (pass : ℕ) (v : Hand) → Learns Fair pass v (λ items. length v.holds ≤ length tokens)
  few pass v items views fair at =
      let one : ℕ → ℕ = λ x. 1 in
      let e = fair.each one in let l = total_least (held one) views pass v at in
      let a = counts v.holds in let b = counts (clients_of tokens) in let c : length (clients_of tokens) ≡ length tokens = length-map tokens (λ (t : TokenShown). t.client) in
      omega (arith, e, l, a, b, c)

  -- while a token is in hand, the pool is not full
  pub has_room : (pass : ℕ) (v : Hand) (client : ℕ) → HoldsOne v.holds client → Learns Fair pass v (λ items. length items < length tokens)
  has_room pass v client one items views fair at =
      let w : ℕ → ℕ = λ x. 1 in
      let e = fair.each w in let l = total_least (held w) views pass v at in
      let o = one.same w in let c = sum_by-cons w client one.others in
      let a = counts (clients_of items) in let b = counts (clients_of tokens) in
      let d : length (clients_of tokens) ≡ length tokens = length-map tokens (λ (t : TokenShown). t.client) in
      let f : length (clients_of items) ≡ length items = length-map items (λ (t : TokenShown). t.client) in
      omega (arith, e, l, o, c, a, b, d, f)

  pub takes : (pass : ℕ) (v : Hand) → 0 < v.parts → Pops Fair pass v (λ x w. IsTaken x.client v w)
  takes pass v part x items views fair at =
      let w : Hand = hand v.parts (x.client ∷ v.holds) in
      let p = total_set parts_of views pass v w at in let k = fair.parts in (
        w,
        record {
          each = λ h. let s = total_set (held h) views pass v w at in let e = fair.each h in
              let c = sum_by-cons h x.client v.holds in let d = sum_by-cons h x.client (clients_of items) in omega (arith, s, e, c, d);
          parts = omega (arith, p, k);
          idle = idle_set views pass w (λ none. absurd (omega (arith, none, part))) fair.idle;
        },
        record { parts = refl; holds = λ h. refl },
      )

  pub hires : (pass : ℕ) (v : Hand) → 1 < v.parts → Forks Fair pass v (hired v) new_hand
  hires pass v parts items views fair at =
      let l : Hand = hired v in
      let p = total_set parts_of views pass v l at in let q = sum_by_push parts_of (set views pass l) new_hand in let k = fair.parts in
      record {
        each = λ h. let s = total_set (held h) views pass v l at in let m = sum_by_push (held h) (set views pass l) new_hand in let e = fair.each h in omega (arith, s, m, e);
        parts = omega (arith, p, q, k, parts);
        idle = idle_more (set views pass l) new_hand (λ none. refl) (idle_set views pass l (λ none. absurd (omega (arith, none, parts))) fair.idle);
      }

  pub joins : (pass : ℕ) (v : Hand) (other : ℕ) (w : Hand) → Merges Fair pass v other w (joined v w) (hand 0 [])
  joins pass v other w items views fair at apart there =
      let both : Hand = joined v w in
      let p = total_set parts_of views pass v both at in
      let q = total_set parts_of (set views pass both) other w (hand 0 []) there in
      let k = fair.parts in
      let was : get_elem? views other ≡ some w = sym (set_else views pass other both apart) ∙ there in
      record {
        each = λ h.
            let s = total_set (held h) views pass v both at in
            let t = total_set (held h) (set views pass both) other w (hand 0 []) there in
            let b = sum_by-append h v.holds w.holds in
            let e = fair.each h in omega (arith, s, t, b, e);
        parts = omega (arith, p, q, k);
        idle = idle_set (set views pass both) other (hand 0 []) (λ none. refl)
            (idle_set views pass both (λ (none : v.parts + w.parts ≡ 0). (λ i. fair.idle pass v at (omega (arith, none)) i ++ fair.idle other w was (omega (arith, none)) i)) fair.idle);
      }

  -- with every part, and what the pool holds, all are there
  pub learns_all : (pass : ℕ) (v : Hand) → v.parts ≡ all_parts → Learns Fair pass v (λ items. AreAll (clients_of tokens) v.holds (clients_of items))
  learns_all pass v all items views fair at h =
      let a = alone h views pass v at (fair.parts ∙ sym all) fair.idle in let e = fair.each h in omega (arith, a, e)
