use Rattle.std.proofs.Common.{◌≡◌, ◌<◌, length, sym, ◌∙◌, arith, w64, to_z, of_z}
use Rattle.std.specs.Arc.{arc_value}
use Rattle.rg_trie.specs.Edited.{without_pair}
use Rattle.rg_index.proofs.Filling.{taken_more, one_more}
use Rattle.rg_index.proofs.level_trie.without_keys.Goals as goal

pub loop-place-preserved : goal.loop-place-preserved
loop-place-preserved g c =
    let keys = c.args.keys.now in
    let i = c.loop-place.place in
    let key = c.index-keys-place.result in
    let id = to_z w64 (of_z w64 c.args.id) in
    let within : i < length keys = omega arith in
    let entry : c.in_ok-entry.entry ≡ record { id = id; place = i } = c.in_ok-entry.ensures in
    let held = c.deref.ensures ∙ c.loop-place.invariant.so_far in
    record {
      so_far = c.in_ok-trie.ensures.ok ∙ c.in_ok-next.ensures.made ∙ (λ k. without_pair (record { key = c.as_str.ensures.read k; entry = entry k }) (held k))
          ∙ sym (taken_more (arc_value c.args.trie) id keys i key within c.index-keys-place.is);
      counted = one_more i c.args.steps.now c.loop-place.steps c.remove.new.steps c.loop-place.invariant.counted c.remove.ensures.counted;
    }
