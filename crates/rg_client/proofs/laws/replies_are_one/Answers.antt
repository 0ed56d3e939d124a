use Rattle.rg_client.proofs.Unique.{reply_once, reply_or_none, reply_or_unfinished}
use Rattle.rg_client.proofs.laws.replies_are_one.Goals as goal

pub returns-clause-one : goal.returns-clause-one
returns-clause-one c = reply_once

pub returns-clause-read : goal.returns-clause-read
returns-clause-read c = reply_or_none

pub returns-clause-whole : goal.returns-clause-whole
returns-clause-whole c = reply_or_unfinished
