use Rattle.std.proofs.Common.{◌≡◌, ℕ, ◌+◌, ◌/◌, ◌%◌, IfOk, refl, sym, ap, ◌∙◌, subst, arith, rules}
use Rattle.std.specs.Arc.{arc_value}
use Rattle.rg_tree.specs.Trees.{Holds, found, set_in}
use Rattle.rg_tree.proofs.Forks.{held_0, held_1, held_2, held_3, if_ok, leaf_held, left_at_next}
use Rattle.rg_tree.proofs.edit.+set.Goals as goal

pub returns-in_ok-held-in-Leaf : goal.returns-in_ok-held-in-Leaf
returns-in_ok-held-in-Leaf g t c =
    let same = c.in_ok-held-in-Leaf.ensures ∙ ap (set_in c.args.key c.args.value) c.as_slice.ensures.value in
    if_ok _ _ c.tree_of.result (λ new h. leaf_held c.args.depth c.args.key c.args.value c.args.tree.now new c.in-Leaf.placed.items c.in_ok-held-in-Leaf.held.items (λ k bits. ap (λ u. found u k bits) c.in-Leaf.is) same h) c.tree_of.ensures

pub set-requires : goal.set-requires
set-requires g t c κs within = search (rules, left_at_next c.args.depth c.in-Some.below c.args.key c.args.bits c.in-Some.ensures.1 c.requires.bits, c.in-Some.ensures.1)

pub returns-in_ok-next-in-0 : goal.returns-in_ok-next-in-0
returns-in_ok-next-in-0 g t c =
    let below = c.in-Some.below in
    let next = c.in_ok-next-in-0.next in
    let held = subst (λ u. Holds below c.args.key c.args.value u next) c.deref.ensures c.in_ok-next-in-0.ensures in
    if_ok _ _ c.forked_with.result (λ new f. held_0 c.args.depth below c.args.key c.args.bits c.args.value (arc_value c.in-Fork.a) (arc_value c.in-Fork.b) (arc_value c.in-Fork.c) (arc_value c.in-Fork.d) next c.args.tree.now new c.in-Some.ensures.1 c.requires.bits (λ k bits. ap (λ u. found u k bits) c.in-Fork.is) c.in-0.is held f) c.forked_with.ensures

pub set-requires-in-1 : goal.set-requires-in-1
set-requires-in-1 g t c κs within = search (rules, left_at_next c.args.depth c.in-Some.below c.args.key c.args.bits c.in-Some.ensures.1 c.requires.bits, c.in-Some.ensures.1)

pub returns-in_ok-next-in-1 : goal.returns-in_ok-next-in-1
returns-in_ok-next-in-1 g t c =
    let below = c.in-Some.below in
    let next = c.in_ok-next-in-1.next in
    let held = subst (λ u. Holds below c.args.key c.args.value u next) c.deref-in-1.ensures c.in_ok-next-in-1.ensures in
    if_ok _ _ c.forked_with-in-1.result (λ new f. held_1 c.args.depth below c.args.key c.args.bits c.args.value (arc_value c.in-Fork.a) (arc_value c.in-Fork.b) (arc_value c.in-Fork.c) (arc_value c.in-Fork.d) next c.args.tree.now new c.in-Some.ensures.1 c.requires.bits (λ k bits. ap (λ u. found u k bits) c.in-Fork.is) c.in-1.is held f) c.forked_with-in-1.ensures

pub set-requires-in-2 : goal.set-requires-in-2
set-requires-in-2 g t c κs within = search (rules, left_at_next c.args.depth c.in-Some.below c.args.key c.args.bits c.in-Some.ensures.1 c.requires.bits, c.in-Some.ensures.1)

pub returns-in_ok-next-in-2 : goal.returns-in_ok-next-in-2
returns-in_ok-next-in-2 g t c =
    let below = c.in-Some.below in
    let next = c.in_ok-next-in-2.next in
    let held = subst (λ u. Holds below c.args.key c.args.value u next) c.deref-in-2.ensures c.in_ok-next-in-2.ensures in
    if_ok _ _ c.forked_with-in-2.result (λ new f. held_2 c.args.depth below c.args.key c.args.bits c.args.value (arc_value c.in-Fork.a) (arc_value c.in-Fork.b) (arc_value c.in-Fork.c) (arc_value c.in-Fork.d) next c.args.tree.now new c.in-Some.ensures.1 c.requires.bits (λ k bits. ap (λ u. found u k bits) c.in-Fork.is) c.in-2.is held f) c.forked_with-in-2.ensures

pub set-requires-in-3 : goal.set-requires-in-3
set-requires-in-3 g t c κs within = search (rules, left_at_next c.args.depth c.in-Some.below c.args.key c.args.bits c.in-Some.ensures.1 c.requires.bits, c.in-Some.ensures.1)

pub returns-in_ok-next-in-3 : goal.returns-in_ok-next-in-3
returns-in_ok-next-in-3 g t c =
    let below = c.in-Some.below in
    let next = c.in_ok-next-in-3.next in
    let held = subst (λ u. Holds below c.args.key c.args.value u next) c.deref-in-3.ensures c.in_ok-next-in-3.ensures in
    if_ok _ _ c.forked_with-in-3.result (λ new f. held_3 c.args.depth below c.args.key c.args.bits c.args.value (arc_value c.in-Fork.a) (arc_value c.in-Fork.b) (arc_value c.in-Fork.c) (arc_value c.in-Fork.d) next c.args.tree.now new c.in-Some.ensures.1 c.requires.bits (λ k bits. ap (λ u. found u k bits) c.in-Fork.is) c.in-3.is held f) c.forked_with-in-3.ensures
