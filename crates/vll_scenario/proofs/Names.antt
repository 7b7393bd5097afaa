-- The members of an object beside the entries of its map.
use Rattle.std.proofs.Common.{◌≡◌, ℕ, List, [], ◌∷◌, map, Option, Some, None, option_map, is_some, String, BTreeMap, Global, Bor, string_bytes, bytes_eq, nat_cmp, refl, sym, ap, ◌∙◌}
use Rattle.std.specs.BTreeMap.{get_by}
use Rattle.std.specs.BTreeMap as tree
use Rattle.std.specs.Cmp.Lexicographic.{slice_cmp}
use Rattle.std.specs.List.{list_all, list_any}
use Rattle.serde_json.specs.Find.{get_member}
use Rattle.serde_json.specs.View.{members_view, view}
use Rattle.serde_json.specs.declared.value.Value.{Value}
use Rattle.serde_json.proofs.Views.{Entry, view-lookup}
use Rattle.vll_scenario.specs.Syntax.{has_all, has_only}

is_some-option_map : {A B : Type 0} (f : A → B) (o : Option A) → is_some (option_map f o) ≡ is_some o
is_some-option_map f None = refl
is_some-option_map f (Some a) = refl

-- whether a map has a key, and whether its object has the member
has_member : (m : BTreeMap (String Global) Value) (name : List ℕ) → is_some (get_by (λ k. slice_cmp nat_cmp name (string_bytes k)) m) ≡ is_some (get_member name (members_view m.entries))
has_member m name = sym (is_some-option_map view _) ∙ ap is_some (view-lookup name m.entries)

pub all-has_all : (m : BTreeMap (String Global) Value) (names : List (Bor (List ℕ))) → list_all (λ (s : Bor (List ℕ)). is_some (get_by (λ k. slice_cmp nat_cmp s.now (string_bytes k)) m)) names ≡ has_all (map (λ s. s.now) names) (members_view m.entries)
all-has_all m [] = refl
all-has_all m (s ∷ names) = rw (has_member m s.now, all-has_all m names)

pub any-map : (name : List ℕ) (names : List (Bor (List ℕ))) → list_any (λ (s : Bor (List ℕ)). bytes_eq name s.now) names ≡ list_any (bytes_eq name) (map (λ s. s.now) names)
any-map name [] = refl
any-map name (s ∷ names) = rw (any-map name names)

all_keys : (es : List Entry) (names : List (List ℕ)) → list_all (λ k. list_any (bytes_eq (string_bytes k)) names) (map (λ (e : Entry). e.0) es) ≡ has_only names (members_view es)
all_keys [] names = refl
all_keys (e ∷ es) names = rw (all_keys es names)

pub all-has_only : (m : BTreeMap (String Global) Value) (names : List (List ℕ)) → list_all (λ k. list_any (bytes_eq (string_bytes k)) names) (tree.keys m) ≡ has_only names (members_view m.entries)
all-has_only m names = all_keys m.entries names
