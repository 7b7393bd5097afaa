-- The words at the opening, as the list that is written.
use Rattle.std.proofs.Common.{◌≡◌, ℕ, zero, suc, ◌+◌, ◌*◌, ◌<◌, List, [], ◌∷◌, ◌++◌, length, take, refl, sym, ap, ◌∙◌, arith, get_or, slice_index, append_assoc}
use Rattle.vll_core.proofs.Common.{take_more, pair_word_of_record, value_word_of, AreFirstWords}

-- each value, followed by pair word 0
abbrev pub laid : List ℕ → List ℕ
laid [] = []
laid (v ∷ vs) = v ∷ 0 ∷ laid vs

pub length-laid : (vs : List ℕ) → length (laid vs) ≡ 2 * length vs
length-laid [] = refl
length-laid (v ∷ vs) = let h = length-laid vs in omega (arith, h)

pub laid-append : (vs ws : List ℕ) → laid (vs ++ ws) ≡ laid vs ++ laid ws
laid-append [] ws = refl
laid-append (v ∷ vs) ws = ap (λ xs. v ∷ 0 ∷ xs) (laid-append vs ws)

-- one record more
pub laid_more : (vs : List ℕ) (i : ℕ) → i < length vs → laid (take (i + 1) vs) ≡ (laid (take i vs) ++ get_or vs i 0 ∷ []) ++ 0 ∷ []
laid_more vs i lt =
    ap laid (take_more vs i 0 lt) ∙ laid-append (take i vs) (get_or vs i 0 ∷ [])
    ∙ sym (append_assoc (laid (take i vs)) (get_or vs i 0 ∷ []) (0 ∷ []))

value_laid : (vs : List ℕ) (r : ℕ) → slice_index (laid vs) (2 * r) ≡ slice_index vs r
value_laid [] r = refl
value_laid (v ∷ vs) zero = refl
value_laid (v ∷ vs) (suc r) = let e : 2 * suc r ≡ suc (suc (2 * r)) = omega arith in ap (slice_index (laid (v ∷ vs))) e ∙ value_laid vs r

pair_laid : (vs : List ℕ) (r : ℕ) → slice_index (laid vs) (1 + 2 * r) ≡ 0
pair_laid [] r = refl
pair_laid (v ∷ vs) zero = refl
pair_laid (v ∷ vs) (suc r) = let e : 1 + 2 * suc r ≡ suc (suc (1 + 2 * r)) = omega arith in ap (slice_index (laid (v ∷ vs))) e ∙ pair_laid vs r

-- word 0, followed by each record's two
pub first_words : (vs words : List ℕ) → words ≡ 0 ∷ laid vs → AreFirstWords vs words
first_words vs words is = record {
  long = ap length is ∙ (let h = length-laid vs in omega (arith, h));
  turn = ap (λ xs. slice_index xs 0) is;
  values = λ r lt. ap (λ xs. slice_index xs (value_word_of r)) is ∙ (let e : value_word_of r ≡ suc (2 * r) = omega arith in ap (slice_index (0 ∷ laid vs)) e ∙ value_laid vs r);
  pairs = λ r lt. ap (λ xs. slice_index xs (pair_word_of_record r)) is ∙ (let e : pair_word_of_record r ≡ suc (1 + 2 * r) = omega arith in ap (slice_index (0 ∷ laid vs)) e ∙ pair_laid vs r);
}
