-- For proofs alone: of which moment the facts are at which a round settles.
use Rattle.std.proofs.Common.{arith, ◌≡◌, ◌≤◌, ℕ, eqb, eq-eqb, true, List, [], ◌∷◌, length, Option, Some, None, refl, ap, sym, ◌∙◌, subst}
use Rattle.std.proofs.lemmas.Bool.{and_from}
use Rattle.std.proofs.lemmas.Option.{none-some, same_Some}
use Rattle.rg_turn.specs.History.{IsLegal, state_at}
use Rattle.rg_turn.specs.declared.rule.Entry.{Entry}
use Rattle.rg_facts.specs.declared.facts.Facts.{Facts}
use Rattle.rg_cmd.specs.declared.ask.AdminReply.{AdminReply}
use Rattle.rg_cmd.specs.declared.ask.Ask.{Ask}
use Rattle.rg_cmd.specs.declared.changes.Log.{Log}
use Rattle.rg_cmd.specs.declared.download.Download.{Download}
use Rattle.rg_admin_laws.specs.Downloads.{From, download, download_with, policy_part, role_part, tag_part}
use Rattle.rg_admin_laws.specs.Laws.{AreNoLess, IsNotDeleted, from_of}
use Rattle.rg_admin_laws.specs.Leading.{led}
use Rattle.rg_admin_laws.specs.Logs.{Administration, log_at, policy_book, tag_book}
use Rattle.rg_admin_laws.specs.Machine.{is_unchanged, same_versions, versions}
use Rattle.rg_admin_laws.specs.Starts.{IsStart}
use Rattle.rg_admin_laws.specs.Steps.{step}
use Rattle.rg_admin_laws.specs.Views.{view}
use Rattle.rg_admin_laws.proofs.Downloading.{viewed}
use Rattle.rg_follow.specs.Answering.{AreAnswered, AreAnsweredAnew, IsAnswered, from_nothing}
use Rattle.rg_follow.specs.Rounds.{Settles, SettlesAnew, begun, begun_with}
use Rattle.rg_follow.proofs.Mixed.{apart, mixed, nothing, only_policies, only_roles, only_tags, policies_lead, roles_lead, tags_lead, unchanged_leads}

abbrev pub H : Type 0
H = List (Entry Ask AdminReply)

-- ---- the laws that are called

pub record Laws : Type 0 where
  pub leads : (start : Administration) (h : H) → IsStart start → IsLegal step start h → (j k : ℕ) → j ≤ k → k ≤ length h → (service : List ℕ) → IsNotDeleted h j k service
      → (before after : Facts) (d : Download) → view (state_at step start h j) service ≡ Some before → view (state_at step start h k) service ≡ Some after
      → download (state_at step start h k) service (from_of before) ≡ Some d → led before d ≡ after
  pub rise : (start : Administration) (h : H) → IsStart start → IsLegal step start h → (j k : ℕ) → j ≤ k → k ≤ length h → (service : List ℕ) → IsNotDeleted h j k service
      → (before after : Facts) → view (state_at step start h j) service ≡ Some before → view (state_at step start h k) service ≡ Some after → AreNoLess before after
  pub unchanged : (a : Administration) (service : List ℕ) (before after : Facts) (d : Download) → view a service ≡ Some after
      → download a service (from_of before) ≡ Some d → is_unchanged d ≡ same_versions (versions before) (versions after)

-- ---- one download

-- what is downloaded where the service has this log and is seen so
abbrev given : ℕ → Log → Facts → From → Download
given seq log present from = record {
  seq = seq;
  policies = policy_part present (policy_book log) from.policies;
  tags = tag_part present (tag_book log) from.tags;
  roles = role_part present from.roles;
}

-- the log and the view behind a download that came
record IsGiven (a : Administration) (service : List ℕ) (from : From) (d : Download) : Type 0 where
  log : Log
  present : Facts
  found : log_at a.logs service ≡ Some log
  seen : view a service ≡ Some present
  is : given a.state.count log present from ≡ d

came : (a : Administration) (service : List ℕ) (from : From) (d : Download) → download a service from ≡ Some d → IsGiven a service from d
came a service from d down = go (log_at a.logs service) (view a service) refl refl down
  where
    go : (l : Option Log) (f : Option Facts) → log_at a.logs service ≡ l → view a service ≡ f → download_with a.state.count from l f ≡ Some d → IsGiven a service from d
    go None f l_is f_is h = absurd (none-some d h)
    go (Some l) None l_is f_is h = absurd (none-some d h)
    go (Some l) (Some f) l_is f_is h = record { log = l; present = f; found = l_is; seen = f_is; is = same_Some (given a.state.count l f from) d h }

-- the facts of a view stay what they are by what changes nothing
stays : (a : Administration) (service : List ℕ) (f : Facts) → view a service ≡ Some f → led f nothing ≡ f
stays a service f is = let v = viewed a service f is in subst (λ g. led g nothing ≡ g) v.facts_are refl

service_is : (a : Administration) (service : List ℕ) (f : Facts) → view a service ≡ Some f → f.service ≡ service
service_is a service f is = let v = viewed a service f is in ap (λ (g : Facts). g.service) (sym v.facts_are)

-- ---- what the plugin saw

module _ (laws : Laws) (start : Administration) (h : H) (starts : IsStart start) (legal : IsLegal step start h)
    (service : List ℕ) (low : ℕ) (kept : IsNotDeleted h low (length h) service) where
  abbrev at : ℕ → Administration
  at k = state_at step start h k

  -- what the service's plugin saw at a moment, from the lowest up to this one
  record IsSeen (f : Facts) (n : ℕ) : Type 0 where
    moment : ℕ
    from : low ≤ moment
    to : moment ≤ n
    seen : view (at moment) service ≡ Some f

  -- facts whose parts are what it saw, each at a moment of its own
  record AreSeen (facts : Facts) (n : ℕ) : Type 0 where
    policies : Facts
    tags : Facts
    roles : Facts
    policies_seen : IsSeen policies n
    tags_seen : IsSeen tags n
    roles_seen : IsSeen roles n
    are : mixed policies tags roles ≡ facts

  -- an answer at the moment k to a question that was asked from the moment n on
  record IsTold (from : From) (n k : ℕ) (d : Download) : Type 0 where
    after : n ≤ k
    within : k ≤ length h
    gives : IsGiven (at k) service from d

  told : (from : From) (n k : ℕ) (d : Download) → n ≤ k → k ≤ length h → download (at k) service from ≡ Some d → IsTold from n k d
  told from n k d after within down = record { after = after; within = within; gives = came (at k) service from d down }

  between : (j k : ℕ) → low ≤ j → k ≤ length h → IsNotDeleted h j k service
  between j k from to n e x y there = kept n e (omega (arith, from, x)) (omega (arith, to, y)) there

  -- the download from the versions of what was seen leads to what is seen
  leads : (f : Facts) (n : ℕ) → IsSeen f n → (from : From) (k : ℕ) (d : Download) (t : IsTold from n k d) → led f (given (at k).state.count t.gives.log t.gives.present (from_of f)) ≡ t.gives.present
  leads f n s from k d t =
      let g = t.gives in
      laws.leads start h starts legal s.moment k (omega (arith, s.to, t.after)) t.within service (between s.moment k s.from t.within) f g.present
      (given (at k).state.count g.log g.present (from_of f)) s.seen g.seen (λ i. download_with (at k).state.count (from_of f) (g.found i) (g.seen i))

  -- a download whose parts come from three answers leads to the parts of what is seen at each
  module _ (facts : Facts) (n : ℕ) (m : AreSeen facts n) (j k l : ℕ) (x y z : Download)
      (p : IsTold (from_of facts) n j x) (t : IsTold (from_of facts) n k y) (r : IsTold (from_of facts) n l z) where
    abbrev by_policies : Download
    by_policies = given (at j).state.count p.gives.log p.gives.present (from_of m.policies)

    abbrev by_tags : Download
    by_tags = given (at k).state.count t.gives.log t.gives.present (from_of m.tags)

    abbrev by_roles : Download
    by_roles = given (at l).state.count r.gives.log r.gives.present (from_of m.roles)

    policies_are : x.policies ≡ by_policies.policies
    policies_are = ap (λ (w : Download). w.policies) (sym p.gives.is)
        ∙ ap (λ (f : Facts). policy_part p.gives.present (policy_book p.gives.log) (Some f.policy_version)) (sym m.are)

    tags_are : y.tags ≡ by_tags.tags
    tags_are = ap (λ (w : Download). w.tags) (sym t.gives.is)
        ∙ ap (λ (f : Facts). tag_part t.gives.present (tag_book t.gives.log) (Some f.tag_version)) (sym m.are)

    roles_are : z.roles ≡ by_roles.roles
    roles_are = ap (λ (w : Download). w.roles) (sym r.gives.is)
        ∙ ap (λ (f : Facts). role_part r.gives.present (Some f.role_version)) (sym m.are)

    moves : (d : Download) → d.policies ≡ x.policies → d.tags ≡ y.tags → d.roles ≡ z.roles → led facts d ≡ mixed p.gives.present t.gives.present r.gives.present
    moves d policies tags roles =
        ap (λ f. led f d) (sym m.are)
        ∙ apart m.policies m.tags m.roles d.seq d.policies d.tags d.roles
        ∙ (λ i. mixed
        (led m.policies (only_policies ((policies ∙ policies_are) i)))
        (led m.tags (only_tags ((tags ∙ tags_are) i)))
        (led m.roles (only_roles ((roles ∙ roles_are) i))))
        ∙ policies_lead m.policies p.gives.present by_policies (leads m.policies n m.policies_seen (from_of facts) j x p) (led m.tags (only_tags by_tags.tags)) (led m.roles (only_roles by_roles.roles))
        ∙ tags_lead m.tags t.gives.present by_tags (leads m.tags n m.tags_seen (from_of facts) k y t) p.gives.present (led m.roles (only_roles by_roles.roles))
        ∙ roles_lead m.roles r.gives.present by_roles (leads m.roles n m.roles_seen (from_of facts) l z r) p.gives.present t.gives.present

  -- a download of which nothing changed leads nowhere
  stands : (facts : Facts) (n : ℕ) → AreSeen facts n → (d : Download) → is_unchanged d ≡ true → led facts d ≡ facts
  stands facts n m d none =
      ap (λ f. led f d) (sym m.are) ∙ unchanged_leads d none (mixed m.policies m.tags m.roles)
      ∙ (λ i. mixed
      (stays (at m.policies_seen.moment) service m.policies m.policies_seen.seen i)
      (stays (at m.tags_seen.moment) service m.tags m.tags_seen.seen i)
      (stays (at m.roles_seen.moment) service m.roles m.roles_seen.seen i))
      ∙ m.are

  -- what is seen at an answer was seen by any later moment
  now_seen : (from : From) (n k last : ℕ) (d : Download) (t : IsTold from n k d) → low ≤ n → k ≤ last → IsSeen t.gives.present last
  now_seen from n k last d t above to = record { moment = k; from = omega (arith, above, t.after); to = to; seen = t.gives.seen }

  -- no version falls from what was seen to what is seen at a later answer
  rises : (f : Facts) (n : ℕ) → IsSeen f n → (from : From) (i k : ℕ) (d : Download) (t : IsTold from i k d) → n ≤ k → AreNoLess f t.gives.present
  rises f n s from i k d t after =
      laws.rise start h starts legal s.moment k (omega (arith, s.to, after)) t.within service (between s.moment k s.from t.within) f t.gives.present s.seen t.gives.seen

  -- ---- one asking

  module _ (facts : Facts) (n : ℕ) (m : AreSeen facts n) (above : low ≤ n) (d : Download) (first last : ℕ) (begins : n ≤ first)
      (a : IsAnswered start h service (from_of facts) d first last) where
    by_policies_told : IsTold (from_of facts) n a.policies_at a.of_policies
    by_policies_told = told (from_of facts) n a.policies_at a.of_policies (omega (arith, begins, a.began)) (omega (arith, a.then, a.ended, a.within)) a.policies_come

    by_tags_told : IsTold (from_of facts) n a.tags_at a.of_tags
    by_tags_told = told (from_of facts) n a.tags_at a.of_tags (omega (arith, begins, a.began, a.then)) (omega (arith, a.ended, a.within)) a.tags_come

    by_roles_told : IsTold (from_of facts) n last a.of_roles
    by_roles_told = told (from_of facts) n last a.of_roles (omega (arith, begins, a.began, a.then, a.ended)) a.within a.roles_come

    abbrev policies_now : Facts
    policies_now = by_policies_told.gives.present

    abbrev tags_now : Facts
    tags_now = by_tags_told.gives.present

    abbrev roles_now : Facts
    roles_now = by_roles_told.gives.present

    leads_to : led facts d ≡ mixed policies_now tags_now roles_now
    leads_to = moves facts n m a.policies_at a.tags_at last a.of_policies a.of_tags a.of_roles by_policies_told by_tags_told by_roles_told d a.policies a.tags a.roles

    asked : AreSeen (led facts d) last
    asked = record {
      policies = policies_now;
      tags = tags_now;
      roles = roles_now;
      policies_seen = now_seen (from_of facts) n a.policies_at last a.of_policies by_policies_told above (omega (arith, a.then, a.ended));
      tags_seen = now_seen (from_of facts) n a.tags_at last a.of_tags by_tags_told above a.ended;
      roles_seen = now_seen (from_of facts) n last last a.of_roles by_roles_told above (omega arith);
      are = sym leads_to;
    }

    -- ---- the last

    module _ (none : is_unchanged d ≡ true) where
      -- each part is what is seen where it was answered
      facts_are : facts ≡ mixed policies_now tags_now roles_now
      facts_are = sym (stands facts n m d none) ∙ leads_to

      seen_there : IsSeen policies_now a.policies_at
      seen_there = now_seen (from_of facts) n a.policies_at a.policies_at a.of_policies by_policies_told above (omega arith)

      -- between two equal versions there is no other
      same_tags : facts.tag_version.0 ≡ policies_now.tag_version.0
      same_tags =
          let less = rises m.tags n m.tags_seen (from_of facts) n a.policies_at a.of_policies by_policies_told by_policies_told.after in
          let more = rises policies_now a.policies_at seen_there (from_of facts) n a.tags_at a.of_tags by_tags_told a.then in
          let had : m.tags.tag_version.0 ≡ facts.tag_version.0 = ap (λ (f : Facts). f.tag_version.0) m.are in
          let end : facts.tag_version.0 ≡ tags_now.tag_version.0 = ap (λ (f : Facts). f.tag_version.0) facts_are in
          omega (arith, less.tags, more.tags, had, end)

      same_roles : facts.role_version.0 ≡ policies_now.role_version.0
      same_roles =
          let less = rises m.roles n m.roles_seen (from_of facts) n a.policies_at a.of_policies by_policies_told by_policies_told.after in
          let more = rises policies_now a.policies_at seen_there (from_of facts) n last a.of_roles by_roles_told (omega (arith, a.then, a.ended)) in
          let had : m.roles.role_version.0 ≡ facts.role_version.0 = ap (λ (f : Facts). f.role_version.0) m.are in
          let end : facts.role_version.0 ≡ roles_now.role_version.0 = ap (λ (f : Facts). f.role_version.0) facts_are in
          omega (arith, less.roles, more.roles, had, end)

      same : same_versions (versions facts) (versions policies_now) ≡ true
      same =
          let policies = eq-eqb facts.policy_version.0 policies_now.policy_version.0 (ap (λ (f : Facts). f.policy_version.0) facts_are) in
          let tags = eq-eqb facts.tag_version.0 policies_now.tag_version.0 same_tags in
          let roles = eq-eqb facts.role_version.0 policies_now.role_version.0 same_roles in
          and_from (eqb facts.policy_version.0 policies_now.policy_version.0) _ policies
          (and_from (eqb facts.tag_version.0 policies_now.tag_version.0) (eqb facts.role_version.0 policies_now.role_version.0) tags roles)

      -- so the question for the policies found nothing changed in any part
      settled_there : facts ≡ policies_now
      settled_there =
          let unchanged = laws.unchanged (at a.policies_at) service facts policies_now a.of_policies by_policies_told.gives.seen a.policies_come ∙ same in
          sym (stands facts n m a.of_policies unchanged)
          ∙ moves facts n m a.policies_at a.policies_at a.policies_at a.of_policies a.of_policies a.of_policies by_policies_told by_policies_told by_policies_told a.of_policies refl refl refl

      settled : (k : ℕ) × (first ≤ k) × (k ≤ last) × (view (at k) service ≡ Some facts)
      settled = (a.policies_at, a.began, omega (arith, a.then, a.ended), by_policies_told.gives.seen ∙ ap (λ f. Some f) (sym settled_there))

  -- ---- a round

  rounds : (ds : List Download) (facts : Facts) (n : ℕ) → AreSeen facts n → low ≤ n → (first last : ℕ) → n ≤ first → AreAnswered start h service facts ds first last
      → (after : Facts) → Settles facts ds after → (k : ℕ) × (first ≤ k) × (k ≤ last) × (view (at k) service ≡ Some after)
  rounds [] facts n m above first last begins answers after settles = absurd settles
  rounds (d ∷ []) facts n m above first last begins answers after settles =
      let s = settled facts n m above d first answers.0 begins answers.1 settles.0 in
      (s.0, s.1, subst (λ k. s.0 ≤ k) answers.2 s.2, s.3 ∙ ap (λ f. Some f) (sym settles.1))
  rounds (d ∷ e ∷ ds) facts n m above first last begins answers after settles =
      let a = answers.1 in
      let s = rounds (e ∷ ds) (led facts d) answers.0 (asked facts n m above d first answers.0 begins a)
      (omega (arith, above, begins, a.began, a.then, a.ended)) answers.0 last (omega arith) answers.2 after settles.2 in
      (s.0, omega (arith, a.began, a.then, a.ended, s.1), s.2, s.3)

-- ---- the clauses

pub on : Laws → (start : Administration) (h : H) → IsStart start → IsLegal step start h → (service : List ℕ) (j : ℕ) → IsNotDeleted h j (length h) service
    → (had : Facts) → view (state_at step start h j) service ≡ Some had → (first last : ℕ) → j ≤ first → (ds : List Download) → AreAnswered start h service had ds first last
    → (after : Facts) → Settles had ds after → (n : ℕ) × (first ≤ n) × (n ≤ last) × (view (state_at step start h n) service ≡ Some after)
on laws start h starts legal service j kept had seen first last from ds answers after settles =
    rounds laws start h starts legal service j kept ds had j (record {
      policies = had;
      tags = had;
      roles = had;
      policies_seen = now;
      tags_seen = now;
      roles_seen = now;
      are = refl;
    }) (omega arith) first last from answers after settles
  where
    now : IsSeen laws start h starts legal service j kept had j
    now = record { moment = j; from = omega arith; to = omega arith; seen = seen }

-- what is begun with is whole in each part
begun_is : (a b c : Administration) (service : List ℕ) (x y z d : Download) (p : IsGiven a service from_nothing x) (t : IsGiven b service from_nothing y) (r : IsGiven c service from_nothing z)
    → d.policies ≡ x.policies → d.tags ≡ y.tags → d.roles ≡ z.roles → (facts : Facts) → begun service d ≡ Some facts → mixed p.present t.present r.present ≡ facts
begun_is a b c service x y z d p t r policies tags roles facts is =
    (λ i. record (mixed p.present t.present r.present) { service = service_is a service p.present p.seen i })
    ∙ same_Some _ facts ((λ i. begun_with service
    ((sym (policies ∙ ap (λ (w : Download). w.policies) (sym p.is))) i)
    ((sym (tags ∙ ap (λ (w : Download). w.tags) (sym t.is))) i)
    ((sym (roles ∙ ap (λ (w : Download). w.roles) (sym r.is))) i))
    ∙ is)

pub anew : Laws → (start : Administration) (h : H) → IsStart start → IsLegal step start h → (service : List ℕ) (first last : ℕ) → IsNotDeleted h first (length h) service
    → (ds : List Download) → AreAnsweredAnew start h service ds first last → (after : Facts) → SettlesAnew service ds after
    → (n : ℕ) × (first ≤ n) × (n ≤ last) × (view (state_at step start h n) service ≡ Some after)
anew laws start h starts legal service first last kept [] answers after settles = absurd answers
anew laws start h starts legal service first last kept (d ∷ ds) answers after settles =
    let facts = answers.1 in
    let a = answers.2 in
    let p = came (state_at step start h a.policies_at) service from_nothing a.of_policies a.policies_come in
    let t = came (state_at step start h a.tags_at) service from_nothing a.of_tags a.tags_come in
    let r = came (state_at step start h answers.0) service from_nothing a.of_roles a.roles_come in
    let s = rounds laws start h starts legal service first kept ds facts answers.0 (record {
      policies = p.present;
      tags = t.present;
      roles = r.present;
      policies_seen = record { moment = a.policies_at; from = a.began; to = omega (arith, a.then, a.ended); seen = p.seen };
      tags_seen = record { moment = a.tags_at; from = omega (arith, a.began, a.then); to = a.ended; seen = t.seen };
      roles_seen = record { moment = answers.0; from = omega (arith, a.began, a.then, a.ended); to = omega arith; seen = r.seen };
      are = begun_is (state_at step start h a.policies_at) (state_at step start h a.tags_at) (state_at step start h answers.0) service
          a.of_policies a.of_tags a.of_roles d p t r a.policies a.tags a.roles facts answers.3;
    }) (omega (arith, a.began, a.then, a.ended)) answers.0 last (omega arith) answers.4 after
    (subst (λ f. Settles f ds after) (same_Some settles.0 facts (sym settles.1 ∙ answers.3)) settles.2) in
    (s.0, omega (arith, a.began, a.then, a.ended, s.1), s.2, s.3)
