use Rattle.ref_model.specs.Requests.{request_of}
use Rattle.native_methods.specs.NativeStates.{with_natives}
use Rattle.native_methods.proofs.AskedLaws.{monitor_asks, monitor_throws}
use Rattle.native_methods.proofs.thread_natives.monitor_asked.Goals as goal

pub returns-in-Ok : goal.returns-in-Ok
returns-in-Ok c w s r =
    monitor_asks w (with_natives s r) c.args.this c.args.native c.in-Ok.o (request_of c.monitor_request.result) c.object_of.result c.object_of.ensures c.in-Ok.is c.monitor_request.ensures

pub returns-in-Err : goal.returns-in-Err
returns-in-Err c w s r =
    monitor_throws w (with_natives s r) c.args.this c.args.native c.in-Err.exception c.object_of.result c.object_of.ensures c.in-Err.is c.requires
