-- What is decided of a request in its context.
use Rattle.kr_defs.specs.Image.{Image}
use Rattle.kr_calls.specs.declared.calls.Reply.{Reply}
use Rattle.kr_calls.specs.declared.calls.Request.{Request}
use Rattle.kr_calls.specs.Deciding.{Work}
use Rattle.kr_calls.specs.Decide.{work_of}
use Rattle.kr_sessions.specs.declared.context.Context.{Context}

-- its records, the image behind them and its reply
abbrev pub decided_in : Context → Image → Request → Work × Reply
decided_in context image request =
    work_of context.options.now context.now context.sessions.now.heartbeats image context.place request
