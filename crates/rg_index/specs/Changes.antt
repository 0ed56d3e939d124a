-- Forms that may be filed, and forms after a change.
use Rattle.std.specs.Prelude.{ℕ, ◌||◌, not, Bool, true, false, List, ◌∷◌, [], ◌++◌, filter, map, Option, Some, None, if◌then◌else◌}
use Rattle.std.specs.List.{Contains, list_all}
use Rattle.std.specs.Ordering.{int_eq}
use Rattle.rg_base.specs.Texts.{all_distinct}
use Rattle.rg_defs.specs.declared.service_def.ServiceDef.{ServiceDef}
use Rattle.rg_resmatch.specs.Rules.{all_values_fit}
use Rattle.rg_index.specs.declared.form.Form.{Form}
use Rattle.rg_index.specs.Filing.{pairs}

-- the values of each of its maps pass rule V6
abbrev pub form_fits : ServiceDef → Form → Bool
form_fits def form = all_values_fit def form.maps.items

abbrev pub forms_fit : ServiceDef → List Form → Bool
forms_fit def forms = list_all (form_fits def) forms

abbrev pub same_id : Form → Form → Bool
same_id f g = int_eq g.id f.id

-- no two forms have one id
abbrev pub ids_differ : List Form → Bool
ids_differ forms = all_distinct same_id forms

-- this form, where one is given, is one of these
abbrev pub IsAmong : List Form → Option Form → Type 0
IsAmong forms None = Unit {0}
IsAmong forms (Some f) = Contains forms f

-- this form, where one is given, fits
abbrev pub given_fits : ServiceDef → Option Form → Bool
given_fits def None = true
given_fits def (Some f) = form_fits def f

-- the form has the id of this one, where one is given
abbrev pub has_id_of : Option Form → Form → Bool
has_id_of None f = false
has_id_of (Some g) f = same_id g f

-- no form but the old one has the id of the new one
abbrev pub is_free : List Form → Option Form → Option Form → Bool
is_free forms old new = list_all (λ f. has_id_of old f || not (has_id_of new f)) forms

-- the new form in the place of the old one, or at the end where no old one is given; the list without the old one where no new one is given
abbrev pub changed : List Form → Option Form → Option Form → List Form
changed forms None None = forms
changed forms None (Some new) = forms ++ new ∷ []
changed forms (Some old) None = filter (λ f. not (same_id old f)) forms
changed forms (Some old) (Some new) = map (λ f. if same_id old f then new else f) forms

-- how often the form, where one is given, is filed
abbrev pub given_pairs : ServiceDef → Option Form → ℕ
given_pairs def None = 0
given_pairs def (Some f) = pairs def f
