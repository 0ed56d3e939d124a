use Rattle.rg_serve.specs.Held.{begun}
use Rattle.rg_serve.proofs.serving.serve.Given as goal

abbrev pub ghosts-run_named-J-Naming : goal.ghosts-run_named-J-Naming
ghosts-run_named-J-Naming g a = record {
  turn = a.service.turn.turn;
  opening = begun a.service.refresher.publisher;
  plugin = a.service.refresher.service;
  before = a.service.seat;
  published = a.service.refresher.publisher.list;
}

abbrev pub ghosts-run_named-J-Ledger : goal.ghosts-run_named-J-Ledger
ghosts-run_named-J-Ledger g a = record { name = a.blank.name; parts = a.blank.parts }
