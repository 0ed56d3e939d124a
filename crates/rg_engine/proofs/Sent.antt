-- Engines may cross threads. `search` alone stops at its bounds where an evaluator begins.
use denote.Param.Send.{IsSend, IsSync, sendable}
use denote.Param.SendFields.{declared_send, declared_sync}
use Rattle.std.proofs.Crossing.{crosses}
use Rattle.rg_resmatch.specs.contracts.matcher.Matcher as M
use Rattle.rg_zones.specs.contracts.map.MatchedZone as Z
use Rattle.rg_zones.specs.contracts.map.MatchedZone.TheInside as ZI
use Rattle.rg_zones.specs.contracts.map.ZoneMap as W
use Rattle.rg_zones.specs.contracts.map.ZoneMap.TheInside as WI
use Rattle.rg_engine.specs.contracts.setup.Setup as P
use Rattle.rg_engine.specs.contracts.setup.Setup.TheInside as PI
use Rattle.rg_engine.specs.contracts.sets.Sets as S
use Rattle.rg_engine.specs.contracts.sets.Sets.TheInside as SI
use Rattle.rg_engine.specs.contracts.engine.Engine as N
use Rattle.rg_engine.specs.contracts.engine.Engine.TheInside as NI
use Rattle.rg_base.proofs.text.Text.TheSendSync as text
use Rattle.rg_defs.proofs.path_questions.Paths.TheSendSync as paths
use Rattle.rg_evalr.proofs.frame.Frame.TheSendSync as frame
use Rattle.rg_facts.proofs.facts.Facts.TheSendSync as facts
use Rattle.rg_index.proofs.Sent.{index_send, index_sync}
use Rattle.rg_roles.proofs.membership.Roles.TheSendSync as roles
use Rattle.rg_policy_sets.proofs.Sent.{policies_send, policies_sync, rows_send, rows_sync}
use Rattle.rg_engine.proofs.lists.Spares.TheSendSync as spares
use Rattle.rg_engine.proofs.setup.Versions.TheSendSync as versions

matcher_send : IsSend M.the_row
matcher_send = search (crosses, sendable) depth 60

matcher_sync : IsSync M.the_row
matcher_sync = search (crosses, sendable) depth 60

zone_inside_send : IsSend ZI.the_row
zone_inside_send = declared_send ZI.the_type (search (sendable, matcher_send) depth 40, (search (crosses, sendable) depth 40, tt))

zone_inside_sync : IsSync ZI.the_row
zone_inside_sync = declared_sync ZI.the_type (search (sendable, matcher_sync) depth 40, (search (crosses, sendable) depth 40, tt))

zone_send : IsSend Z.the_row
zone_send = search (sendable, zone_inside_send) depth 20

zone_sync : IsSync Z.the_row
zone_sync = search (sendable, zone_inside_sync) depth 20

map_inside_send : IsSend WI.the_row
map_inside_send = declared_send WI.the_type (search (crosses, sendable, zone_send) depth 40, (search (sendable, index_send) depth 40, (search (sendable, text.the_send) depth 40, (search (crosses, sendable) depth 40, tt))))

map_inside_sync : IsSync WI.the_row
map_inside_sync = declared_sync WI.the_type (search (crosses, sendable, zone_sync) depth 40, (search (sendable, index_sync) depth 40, (search (sendable, text.the_sync) depth 40, (search (crosses, sendable) depth 40, tt))))

map_send : IsSend W.the_row
map_send = search (sendable, map_inside_send) depth 20

map_sync : IsSync W.the_row
map_sync = search (sendable, map_inside_sync) depth 20

setup_inside_send : IsSend PI.the_row
setup_inside_send = declared_send PI.the_type (search (sendable, facts.the_send) depth 40, (search (sendable, frame.the_send) depth 40, (search (sendable, roles.the_send) depth 40, (search (sendable, map_send) depth 40, (search (sendable, paths.the_send) depth 40, tt)))))

setup_inside_sync : IsSync PI.the_row
setup_inside_sync = declared_sync PI.the_type (search (sendable, facts.the_sync) depth 40, (search (sendable, frame.the_sync) depth 40, (search (sendable, roles.the_sync) depth 40, (search (sendable, map_sync) depth 40, (search (sendable, paths.the_sync) depth 40, tt)))))

setup_send : IsSend P.the_row
setup_send = search (sendable, setup_inside_send) depth 20

setup_sync : IsSync P.the_row
setup_sync = search (sendable, setup_inside_sync) depth 20

sets_inside_send : IsSend SI.the_row
sets_inside_send = declared_send SI.the_type (search (sendable, policies_send) depth 40, (search (crosses, sendable, policies_send) depth 40, (search (sendable, rows_send) depth 40, tt)))

sets_inside_sync : IsSync SI.the_row
sets_inside_sync = declared_sync SI.the_type (search (sendable, policies_sync) depth 40, (search (crosses, sendable, policies_sync) depth 40, (search (sendable, rows_sync) depth 40, tt)))

sets_send : IsSend S.the_row
sets_send = search (sendable, sets_inside_send) depth 20

sets_sync : IsSync S.the_row
sets_sync = search (sendable, sets_inside_sync) depth 20

engine_inside_send : IsSend NI.the_row
engine_inside_send = declared_send NI.the_type (search (crosses, sendable, setup_send, setup_sync) depth 40, (search (sendable, versions.the_send) depth 40, (search (sendable, sets_send) depth 40, (search (sendable, spares.the_send) depth 40, tt))))

engine_inside_sync : IsSync NI.the_row
engine_inside_sync = declared_sync NI.the_type (search (crosses, sendable, setup_send, setup_sync) depth 40, (search (sendable, versions.the_sync) depth 40, (search (sendable, sets_sync) depth 40, (search (sendable, spares.the_sync) depth 40, tt))))

pub engine_send : IsSend N.the_row
engine_send = search (sendable, engine_inside_send) depth 40

pub engine_sync : IsSync N.the_row
engine_sync = search (sendable, engine_inside_sync) depth 40
