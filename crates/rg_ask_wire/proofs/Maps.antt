-- Lists that are maps in JSON, printed and read again.
use Rattle.std.proofs.Common.{◌≡◌, ℕ, List, [], ◌∷◌, map, Some, None, option_and_then, unwrap_or, refl, sym, ap, ap₂, ◌∙◌}
use Rattle.std.specs.Str.{chars, encode_utf8_all}
use Rattle.serde_json.specs.Data.{Data, null, Members, no_members, member, put}
use Rattle.serde_json.specs.Find.{get}
use Rattle.rg_base.specs.Listed.{Listed, listed}
use Rattle.rg_json.specs.declared.shape.Keys.TheVariants.{Any}
use Rattle.rg_json.specs.Faults.{fault_of, members_fault, below}
use Rattle.rg_json.specs.Fields.{field, unless_null, within, members_in, map_of, map_at, pairs_list}
use Rattle.rg_json.specs.Own.{EachOf}
use Rattle.rg_json.specs.Shape.{Shape, map_of as maps}
use Rattle.rg_json.proofs.Right.{first_right}
use Rattle.rg_cmd_wire.specs.PrintedRows.{named_members, map_data}
use Rattle.rg_ask_wire.specs.KeyOrder.{AreInOrder, IsBeforeAll, OwnMap}

module _ {X : Type 0} (name : X → List ℕ) (print : X → Data) where
  abbrev pub in_turn : List X → Members
  in_turn [] = no_members
  in_turn (x ∷ xs) = member (encode_utf8_all (name x)) (print x) (in_turn xs)

  first_put : (x : X) (xs : List X) → IsBeforeAll name x xs → put (encode_utf8_all (name x)) (print x) (in_turn xs) ≡ in_turn (x ∷ xs)
  first_put x [] h = refl
  first_put x (y ∷ ys) h = rw h refl

  pub members_in_turn : (xs : List X) → AreInOrder name xs → named_members name print xs ≡ in_turn xs
  members_in_turn [] h = refl
  members_in_turn (x ∷ xs) h = ap (put (encode_utf8_all (name x)) (print x)) (members_in_turn xs h.1) ∙ first_put x xs h.0

  module _ (own : X → Type 0) where
    all_in_turn : (read : List ℕ × Data → X) → ((x : X) → own x → read (encode_utf8_all (name x), print x) ≡ x) → (xs : List X) → EachOf own xs → map read (pairs_list (in_turn xs)) ≡ xs
    all_in_turn read again [] all = refl
    all_in_turn read again (x ∷ xs) all = ap₂ (λ y ys. y ∷ ys) (again x all.0) (all_in_turn read again xs all.1)

    pub map_of_again : (read : List ℕ × Data → X) → ((x : X) → own x → read (encode_utf8_all (name x), print x) ≡ x) → (xs : Listed X) → OwnMap name own xs → map_of read (map_data name print xs) ≡ xs
    unfolding map_of members_in map_data
    map_of_again read again xs is =
        ap (λ ms. listed (map read (pairs_list ms))) (members_in_turn xs.items is.ordered)
        ∙ ap (λ ys. listed ys) (all_in_turn read again xs.items is.each)
        ∙ sym is.whole

    pub map_at_again : (read : List ℕ × Data → X) → ((x : X) → own x → read (encode_utf8_all (name x), print x) ≡ x) → (k : List ℕ) (xs : Listed X) (d : Data)
        → get k d ≡ Some (map_data name print xs) → OwnMap name own xs → map_at read k d ≡ xs
    unfolding map_at within field map_data
    map_at_again read again k xs d found is =
        ap (λ o. map_of read (unwrap_or (option_and_then unless_null o) null)) found ∙ map_of_again read again xs is

    turn_right : (s : Shape) → ((x : X) → own x → fault_of s (print x) ≡ None) → (xs : List X) → EachOf own xs → members_fault Any (fault_of s) (pairs_list (in_turn xs)) ≡ None
    turn_right s right [] all = refl
    turn_right s right (x ∷ xs) all = first_right _ _ (ap (below (chars (encode_utf8_all (name x)))) (right x all.0)) (turn_right s right xs all.1)

    pub map_right : (s : Shape) → ((x : X) → own x → fault_of s (print x) ≡ None) → (xs : Listed X) → OwnMap name own xs → fault_of (maps Any s) (map_data name print xs) ≡ None
    unfolding map_data
    map_right s right xs is = ap (λ ms. members_fault Any (fault_of s) (pairs_list ms)) (members_in_turn xs.items is.ordered) ∙ turn_right s right xs.items is.each
