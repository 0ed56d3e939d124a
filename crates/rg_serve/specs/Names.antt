-- For proofs alone: the names that stand where none were picked.
use Rattle.std.specs.Prelude.{[], None}
use Rattle.atomic_table.specs.Seated.{TableId}
use Rattle.logbook.specs.Pages.{Book}
use Rattle.rg_admin_laws.specs.Logs.{Administration}
use Rattle.rg_turn.specs.Values.{TurnName, new_seat}
use Rattle.rg_publish.specs.Publications.{Published}
use Rattle.rg_serve.specs.Trails.{Seated}

abbrev no_table : TableId
no_table = record { words = 0; slots = 0; views_name = 0; atom = 0; block = 0; offset = 0; slot_names = [] }

abbrev pub no_turn : TurnName Administration
no_turn = record { table = no_table; seats = 0; start = None }

abbrev no_book : Book
no_book = record { number = 0; log_name = 0; cells_name = 0 }

abbrev pub no_publisher : Published
no_publisher = record { book = no_book; list = [] }

abbrev pub no_seat : Seated
no_seat = new_seat no_turn
