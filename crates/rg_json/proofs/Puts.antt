-- Members that are put.
use Rattle.serde_json.proofs.Views.{members_view-insert_entry}

pub ruleset puts = (members_view-insert_entry)
