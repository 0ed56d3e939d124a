-- How exchanges join, over plain lists.
use Rattle.std.proofs.Common.{◌≡◌, ℕ, List, [], ◌∷◌, ◌++◌, length, Some, Bool, true, false, refl, sym, ap, ◌∙◌, subst, arith, append_assoc, append-nil}
use Rattle.std.specs.Prelude.{MatchBool}
use Rattle.std.proofs.lemmas.List.Elements.{All-push, All-weaker}
use mathlib.Core.List.{IsPrefix}
use Rattle.rg_base.specs.declared.numbers.Moment.{Moment}
use Rattle.rg_http.specs.Print.{response_text}
use Rattle.rg_publish.specs.declared.history.Publication.{Publication}
use Rattle.rg_rest.specs.declared.call.Call.{Call}
use Rattle.rg_rest.specs.declared.call.Call.TheVariants.{Admin, Decide, Answer}
use Rattle.rg_rest.specs.Routes.{call_of}
use Rattle.rg_link.specs.Answers.{texts}
use Rattle.rg_link.specs.Audits.{Decided}
use Rattle.rg_link.specs.Workers.{counted}
use Rattle.rg_link.proofs.Steps.{begins_refl, begins_trans, counted_join, decided_more, map_join, rises_join, texts_more}
use Rattle.rg_plugin_link.specs.Asks.{asks_health}
use Rattle.rg_plugin_link.specs.Exchanges.{AreRight, Decider, Exchange, IsAnswer, IsHealth, IsRight, Leads, decided, messages, moments, responses}

-- ---- lists

pub messages_more : (xs : List Exchange) (x : Exchange) → messages (xs ++ x ∷ []) ≡ messages xs ++ x.message ∷ []
messages_more xs x = map_join (λ (y : Exchange). y.message) xs (x ∷ [])

moments_more : (xs : List Exchange) (x : Exchange) → moments (xs ++ x ∷ []) ≡ moments xs ++ x.moment ∷ []
moments_more xs x = map_join (λ (y : Exchange). y.moment) xs (x ∷ [])

decided_join : (xs ys : List Exchange) → decided (xs ++ ys) ≡ decided xs ++ decided ys
decided_join [] ys = refl
decided_join (x ∷ xs) ys = ap (λ ds. x.decided ++ ds) (decided_join xs ys) ∙ sym (append_assoc x.decided (decided xs) (decided ys))

pub decided_one : (xs : List Exchange) (x : Exchange) → decided (xs ++ x ∷ []) ≡ decided xs ++ x.decided
decided_one xs x = decided_join xs (x ∷ []) ∙ ap (λ ds. decided xs ++ ds) (append-nil x.decided)

pub responses_text : (xs : List Exchange) (x : Exchange) → texts (responses (xs ++ x ∷ [])) ≡ texts (responses xs) ++ response_text x.response
responses_text xs x = ap texts (map_join (λ (y : Exchange). y.response) xs (x ∷ [])) ∙ texts_more (responses xs) x.response

-- ---- what is right stays right as more is published

answer_stays : (pubs all : List Publication) (x : Exchange) (call : Call) → IsPrefix pubs all → IsAnswer pubs x call → IsAnswer all x call
answer_stays pubs all x (Answer response) p a = a
answer_stays pubs all x (Admin command part) p a = a
answer_stays pubs all x (Decide request) p a = (a.0, a.1, a.2, decided_more pubs all a.0 p a.3, a.4)

either_way : (b : Bool) (P Q R : Type 0) → (Q → R) → MatchBool b P Q → MatchBool b P R
either_way true P Q R f x = x
either_way false P Q R f x = f x

right_stays : (plugin : List ℕ) (pubs all : List Publication) → IsPrefix pubs all → (x : Exchange) → IsRight plugin pubs x → IsRight plugin all x
right_stays plugin pubs all p x r =
    let call = call_of plugin x.message x.moment in
    either_way (asks_health x.message) (IsHealth x) (IsAnswer pubs x call) (IsAnswer all x call) (answer_stays pubs all x call p) r

pub all_stay : (plugin : List ℕ) (pubs all : List Publication) (xs : List Exchange) → IsPrefix pubs all → AreRight plugin pubs xs → AreRight plugin all xs
all_stay plugin pubs all xs p rs = All-weaker (IsRight plugin pubs) (IsRight plugin all) (right_stays plugin pubs all p) xs rs

pub right_more : (plugin : List ℕ) (pubs all : List Publication) (xs : List Exchange) (x : Exchange) → IsPrefix pubs all → AreRight plugin pubs xs → IsRight plugin all x → AreRight plugin all (xs ++ x ∷ [])
right_more plugin pubs all xs x p rs r = All-push (IsRight plugin all) xs x (all_stay plugin pubs all xs p rs) r

-- ---- what leads from one decider to the next

pub leads_refl : (a : Decider) → Leads a a [] []
leads_refl a = record {
  told = λ before e. e ∙ ap Some (sym (append-nil before));
  publisher = refl;
  list = begins_refl a.pass.list;
  rises = omega arith;
  answered = refl;
}

pub leads_trans : (a b c : Decider) (ts us : List Moment) (ds es : List Decided) → Leads a b ts ds → Leads b c us es → Leads a c (ts ++ us) (ds ++ es)
leads_trans a b c ts us ds es x y = record {
  told = λ before e. y.told (before ++ ts) (x.told before e) ∙ ap Some (append_assoc before ts us);
  publisher = y.publisher ∙ x.publisher;
  list = begins_trans a.pass.list b.pass.list c.pass.list x.list y.list;
  rises = rises_join (length a.pass.list) ds (length b.pass.list) es (length c.pass.list) x.rises y.rises;
  answered = y.answered ∙ ap (counted (length es)) x.answered ∙ sym (counted_join ds es a.pass.answered);
}

pub leads_more : (a b c : Decider) (xs : List Exchange) (x : Exchange) → Leads a b (moments xs) (decided xs) → Leads b c (x.moment ∷ []) x.decided → Leads a c (moments (xs ++ x ∷ [])) (decided (xs ++ x ∷ []))
leads_more a b c xs x before after =
    subst (λ ts. Leads a c ts (decided (xs ++ x ∷ []))) (sym (moments_more xs x))
    (subst (Leads a c (moments xs ++ x.moment ∷ [])) (sym (decided_one xs x)) (leads_trans a b c (moments xs) (x.moment ∷ []) (decided xs) x.decided before after))

-- moments that were given for no exchange
pub leads_unused : (a b c : Decider) (xs : List Exchange) (unused : List Moment) → Leads a b (moments xs) (decided xs) → Leads b c unused [] → Leads a c (moments xs ++ unused) (decided xs)
leads_unused a b c xs unused before after =
    subst (Leads a c (moments xs ++ unused)) (append-nil (decided xs)) (leads_trans a b c (moments xs) unused (decided xs) [] before after)
