use denote.Exit.{yes}
use denote.Param.Send.{arg_send, arg_sync, param_send, param_sync}
use Rattle.rg_plugin.proofs.threads.fn.with_workers.scope+FnOnce.call_once.Goals as goal

pub scope-requires : goal.scope-requires
scope-requires g c κs within =
    let r = c.requires.1.1.1.1.1.1.1.1.1 in
    let w = within.1.1.1.1 in (
      within.0,
      (
        within.1.0,
        (
          within.1.1.0,
          (
            within.1.1.1.0,
            (
              w.0,
              (
                w.1.0,
                (
                  w.1.1.0,
                  (
                    w.1.1.1.0,
                    (
                      w.1.1.1.1,
                      (
                        arg_send _ yes _ (param_send 3 _ r.0),
                        arg_send _ yes _ (param_send 4 _ r.1),
                        arg_send _ yes _ (param_send 5 _ r.2),
                        arg_send _ yes _ (param_send 7 _ r.3),
                        arg_send _ yes _ (param_send 8 _ r.4),
                        arg_sync _ yes _ (param_sync 0 _ r.5),
                        arg_sync _ yes _ (param_sync 6 _ r.6),
                      ),
                    ),
                  ),
                ),
              ),
            ),
          ),
        ),
      ),
    )
