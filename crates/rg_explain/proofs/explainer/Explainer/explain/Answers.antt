use Rattle.std.proofs.Common.{◌≡◌, ◌++◌, List, ap, sym, ◌∙◌, map}
use Rattle.std.specs.Prelude.{flat_map, option_map}
use Rattle.std.proofs.lemmas.Grind.{flat_map-append}
use Rattle.rg_base.specs.Listed.{Listed, listed}
use Rattle.rg_tags.specs.declared.row.TagRow.{TagRow}
use Rattle.rg_roles.specs.declared.row.RoleRow.{RoleRow}
use Rattle.rg_facts.specs.Candidates.{resource_candidates, setting_of, tag_candidates, tags_of, zone_at, candidates}
use Rattle.rg_facts.specs.Flow.{eval}
use Rattle.rg_facts.specs.Texts.{decide}
use Rattle.rg_facts.specs.declared.facts.Facts.{Facts}
use Rattle.rg_explain.specs.Explaining.{first_filled, in_zone, roles_holding, rows_lying, tagged_by, told_all, told_by}
use Rattle.rg_explain.specs.Parts.{setting_with}
use Rattle.rg_explain.specs.declared.explanation.Told.{Told}
use Rattle.rg_explain.proofs.explainer.Explainer.explain.Goals as goal

pub returns : goal.returns
returns c =
    let facts = c.args.self.now in
    let q = c.args.request.now in
    let s = setting_of facts q in
    let held : c.facts-facts.result.now ≡ facts = c.facts-facts.ensures ∙ c.self.view_is in
    let zone : option_map (λ z. z.now) c.zone_at-zone.result ≡ zone_at facts q = c.zone_at-zone.ensures in
    let rows : c.in_ok-rows.rows ≡ listed (rows_lying facts q) = c.in_ok-rows.ensures ∙ ap (λ (f : Facts). listed (rows_lying f q)) held in
    let lying : c.as_slice.result.now ≡ rows_lying facts q = c.as_slice.ensures ∙ ap (λ (l : Listed TagRow). l.items) rows in
    let lying_told : c.as_slice-3.result.now ≡ rows_lying facts q = c.as_slice-3.ensures ∙ ap (λ (l : Listed TagRow). l.items) rows in
    let tagged : c.in_ok-policies.policies ≡ listed (told_all s (flat_map (tag_candidates facts) (tags_of facts q))) =
    c.in_ok-policies.ensures
    ∙ (λ i. listed (told_all (setting_with facts q (zone i)) (flat_map (tag_candidates facts) (flat_map (λ (row : TagRow). row.tags.items) (lying i))))) in
    let policies : c.in_ok-policies-2.policies ≡ listed (told_all s (candidates facts q)) =
    c.in_ok-policies-2.ensures
    ∙ (λ i. listed ((tagged i).items ++ told_all (setting_with facts q (zone i)) (resource_candidates facts)))
    ∙ ap listed (sym (flat_map-append (told_by s) (flat_map (tag_candidates facts) (tags_of facts q)) (resource_candidates facts))) in
    let told : c.as_slice-4.result.now ≡ told_all s (candidates facts q) = c.as_slice-4.ensures ∙ ap (λ (l : Listed Told). l.items) policies in
    let zoned = c.in_ok-in_zone.ensures ∙ (λ i. option_map (in_zone (held i) q) (zone i)) in
    let roles = c.in_ok-roles_holding.ensures ∙ ap (λ (rs : List RoleRow). listed (roles_holding rs q)) (c.as_slice-2.ensures ∙ ap (λ (f : Facts). f.roles.items) held) in
    let tags = c.in_ok-rows_told.ensures ∙ ap (λ (rs : List TagRow). listed (map tagged_by rs)) lying_told in
    let cell = c.first_filled.ensures ∙ ap first_filled told in
    let verdict = c.scan.ensures ∙ ap (λ (f : Facts). eval f q) c.self.view_is in
    let decision = c.in_ok-decide.ensures ∙ ap (λ (f : Facts). decide f q c.args.serial) c.self.view_is in
    let shown = c.policies.view_is ∙ policies in
    λ i. record { zone = zoned i; roles = roles i; rows = tags i; policies = shown i; cell = cell i; verdict = verdict i; decision = decision i }
