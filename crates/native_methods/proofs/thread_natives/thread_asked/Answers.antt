use Rattle.ref_model.specs.Requests.{request_of}
use Rattle.native_methods.proofs.AskedLaws.{thread_asks, thread_throws}
use Rattle.native_methods.proofs.thread_natives.thread_asked.Goals as goal

pub returns-in-Ok : goal.returns-in-Ok
returns-in-Ok c w r =
    thread_asks w c.args.state.now r c.args.this c.args.native c.in-Ok.t (request_of c.thread_request.result) c.thread_of.result c.thread_of.ensures c.in-Ok.is c.thread_request.ensures

pub returns-in-Err : goal.returns-in-Err
returns-in-Err c w r =
    thread_throws w c.args.state.now r c.args.this c.args.native c.in-Err.exception c.thread_of.result c.thread_of.ensures c.in-Err.is c.requires
