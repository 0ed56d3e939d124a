use mir.Syntax.{of_param}
use denote.Exit.{unseen}
use denote.Param.Send.{Quiet-if, sendable}
use Rattle.rg_serve.proofs.crew.with_watcher.Goals as goal

pub scoped-net-requires : goal.scoped-net-requires
scoped-net-requires g c =
    let b = c.type_bounds in
    record {
      at = λ a. (
        (c.requires.none, c.requires.watcher),
        (
          record { owned = b.send-J.owned; leaving = λ k. Quiet-if (k (of_param 0)) unseen unseen (λ x w. tt) (λ x w. tt) },
          record { owned = b.send-P.owned; leaving = λ k. Quiet-if (k (of_param 1)) unseen unseen (λ x w. tt) (λ x w. tt) },
          record { owned = b.send-C.owned; leaving = λ k. Quiet-if (k (of_param 3)) unseen unseen (λ x w. tt) (λ x w. tt) },
          record { owned = b.send-H.owned; leaving = λ k. Quiet-if (k (of_param 5)) unseen unseen (λ x w. tt) (λ x w. tt) },
          record { owned = b.send-N-Link.owned; leaving = λ k. Quiet-if (k (of_param 8)) unseen unseen (λ x w. tt) (λ x w. tt) },
          search (sendable, b.sync-J) depth 10,
          search (sendable, b.sync-G) depth 10,
          search (sendable, b.sync-V) depth 10,
          search (sendable, b.sync-R) depth 10,
        ),
      );
    }
