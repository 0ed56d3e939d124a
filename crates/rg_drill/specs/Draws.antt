-- The draws of the workload: a number that each draw moves on, and what is drawn, in this order.
use Rattle.std.specs.Prelude.{ℕ, ◌+◌, ◌*◌, ◌/◌, ◌%◌, ◌^◌, ◌==◌, if◌then◌else◌}
use Rattle.rg_drill.specs.declared.draws.PolicyDraws.{PolicyDraws}
use Rattle.rg_drill.specs.declared.draws.RequestDraws.{RequestDraws}

-- a value, and the number behind the draws that gave it
pub record Drawn (T : Type 0) : Type 0 where
  pub value : T
  pub next : ℕ

-- the number after one draw
unfoldable pub stepped : ℕ → ℕ
stepped x = (x * 6364136223846793005 + 1442695040888963407) % 2 ^ 64

-- one of the numbers below k
unfoldable pub draw : ℕ → ℕ → Drawn ℕ
draw k x = record { value = (stepped x / 2 ^ 33) % k; next = stepped x }

-- for a policy: its database, whether its table is a prefix, whether it overrides, its user, whether it is for all accesses, whether it denies
unfoldable pub policy_draws : ℕ → Drawn PolicyDraws
policy_draws x =
    let database = draw 50 x in
    let ending = draw 4 database.next in
    let priority = draw 16 ending.next in
    let user = draw 100 priority.next in
    let access = draw 2 user.next in
    let list = draw 8 access.next in
    record { value = record { database = database.value; is_prefix = ending.value == 0; overrides = priority.value == 0; user = user.value; is_for_all = access.value == 0; denies = list.value == 0 }; next = list.next }

-- the number of a policy's table; 1 without a draw where there are no policies
unfoldable pub table_draw : ℕ → ℕ → Drawn ℕ
table_draw policies x = if policies == 0 then record { value = 1; next = x } else record { value = 1 + (draw policies x).value; next = (draw policies x).next }

-- for a request: its user, its database, its table
unfoldable pub request_draws : ℕ → ℕ → Drawn RequestDraws
request_draws policies x =
    let user = draw 100 x in
    let database = draw 50 user.next in
    let table = table_draw policies database.next in
    record { value = record { user = user.value; database = database.value; table = table.value }; next = table.next }
