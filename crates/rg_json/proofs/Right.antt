-- What was printed has no fault.
use Rattle.std.proofs.Common.{◌≡◌, ℕ, ◌+◌, ℤ, pos, negsuc, List, [], ◌∷◌, map, Option, Some, None, option_and_then, is_some, cond, refl, ap, ap₂, ◌∙◌, decimal}
use Rattle.std.specs.Str.{chars}
use Rattle.serde_json.specs.Data.{Data}
use Rattle.serde_json.specs.Find.{get}
use Rattle.rg_base.specs.Listed.{Listed}
use Rattle.rg_json.specs.declared.fault.Fault.{Fault}
use Rattle.rg_json.specs.declared.fault.WireKind.TheVariants.{Range}
use Rattle.rg_json.specs.declared.shape.Need.{Need}
use Rattle.rg_json.specs.declared.shape.Need.TheVariants.{Must, May}
use Rattle.rg_json.specs.Fields.{field, unless_null}
use Rattle.rg_json.specs.Faults.{fault_of, field_fault, items_fault, below, before, here, integer_fault, count_fault}
use Rattle.rg_json.specs.Own.{EachOf, IsInteger}
use Rattle.rg_json.specs.Printing.{text_data, integer_data, count_data, list_data, option_data}
use Rattle.rg_json.specs.Shape.{Shape, text, integer, count, list_of as lists}
use Rattle.rg_json.proofs.Views.{data_list-of}

pub first_right : (a b : Option Fault) → a ≡ None → b ≡ None → before a b ≡ None
first_right a b p q = ap₂ before p q

pub field_right : (k : List ℕ) (need : Need) (s : Shape) (v d : Data) → field k d ≡ Some v → fault_of s v ≡ None → below (chars k) (field_fault need (fault_of s) (field k d)) ≡ None
field_right k Must s v d found right = ap (λ o. below (chars k) (field_fault Must (fault_of s) o)) found ∙ ap (below (chars k)) right
field_right k May s v d found right = ap (λ o. below (chars k) (field_fault May (fault_of s) o)) found ∙ ap (below (chars k)) right

pub items_right : {X : Type 0} (f : Data → Option Fault) (print : X → Data) → ((x : X) → f (print x) ≡ None) → (xs : List X) (n : ℕ) → items_fault f n (map print xs) ≡ None
items_right f print right [] n = refl
items_right f print right (x ∷ xs) n = first_right _ _ (ap (below (chars (decimal n))) (right x)) (items_right f print right xs (n + 1))

pub list_right : {X : Type 0} (s : Shape) (print : X → Data) → ((x : X) → fault_of s (print x) ≡ None) → (xs : Listed X) → fault_of (lists s) (list_data print xs) ≡ None
unfolding list_data
list_right s print right xs = ap (items_fault (fault_of s) 0) (data_list-of (map print xs.items)) ∙ items_right (fault_of s) print right xs.items 0

own_items_right : {X : Type 0} (f : Data → Option Fault) (print : X → Data) (own : X → Type 0) → ((x : X) → own x → f (print x) ≡ None) → (xs : List X) (n : ℕ) → EachOf own xs
    → items_fault f n (map print xs) ≡ None
own_items_right f print own right [] n all = refl
own_items_right f print own right (x ∷ xs) n all = first_right _ _ (ap (below (chars (decimal n))) (right x all.0)) (own_items_right f print own right xs (n + 1) all.1)

pub own_list_right : {X : Type 0} (s : Shape) (print : X → Data) (own : X → Type 0) → ((x : X) → own x → fault_of s (print x) ≡ None) → (xs : Listed X) → EachOf own xs.items
    → fault_of (lists s) (list_data print xs) ≡ None
unfolding list_data
own_list_right s print own right xs all = ap (items_fault (fault_of s) 0) (data_list-of (map print xs.items)) ∙ own_items_right (fault_of s) print own right xs.items 0 all

pub text_right : (t : List ℕ) → fault_of text (text_data t) ≡ None
unfolding text_data
text_right t = refl

pub field_found : (k : List ℕ) (v d : Data) → get k d ≡ Some v → unless_null v ≡ Some v → field k d ≡ Some v
unfolding field
field_found k v d found there = ap (option_and_then unless_null) found ∙ there

pub head : (k : List ℕ) (need : Need) (s : Shape) (v d : Data) → get k d ≡ Some v → unless_null v ≡ Some v → fault_of s v ≡ None
    → below (chars k) (field_fault need (fault_of s) (field k d)) ≡ None
head k need s v d found there right = field_right k need s v d (field_found k v d found there) right

pub maybe : {X : Type 0} (k : List ℕ) (s : Shape) (print : X → Data) (o : Option X) (d : Data) → get k d ≡ Some (option_data print o)
    → ((x : X) → unless_null (print x) ≡ Some (print x)) → ((x : X) → fault_of s (print x) ≡ None)
    → below (chars k) (field_fault May (fault_of s) (field k d)) ≡ None
unfolding field
maybe k s print None d found there right = ap (λ o. below (chars k) (field_fault May (fault_of s) (option_and_then unless_null o))) found
maybe k s print (Some x) d found there right = head k May s (print x) d found (there x) (right x)

pub texts_right : (ts : Listed (List ℕ)) → fault_of (lists text) (list_data text_data ts) ≡ None
texts_right ts = list_right text text_data text_right ts

pub integer_right : (z : ℤ) → IsInteger z → fault_of integer (integer_data z) ≡ None
unfolding integer_fault integer_data
integer_right (pos n) own = ap (λ o. cond (is_some o) None (here Range)) own
integer_right (negsuc n) own = refl

pub count_right : (n : ℕ) → fault_of count (count_data n) ≡ None
unfolding count_fault
count_right n = refl
