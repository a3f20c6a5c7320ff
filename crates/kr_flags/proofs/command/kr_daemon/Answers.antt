use Rattle.std.proofs.Common.{◌≡◌, ◌∙◌, true, false, [], refl, ap, ap₂}
use Rattle.std.proofs.lemmas.Result.{IfOk-weaker}
use Rattle.clap.specs.Words.{app_of, args_of, groups_of, with_rule}
use Rattle.clap.specs.Simple.{on_top}
use Rattle.clap.specs.declared.builder.command.Command.TheViews.{out-Command}
use Rattle.kr_flags.specs.Words as words
use Rattle.kr_flags.specs.Words.{HasNeeded, IsOption}
use Rattle.kr_flags.proofs.Needed.{IsBare, Six, has_needed}
use Rattle.kr_flags.proofs.command.kr_daemon.Goals as goal

-- src/command.rt:29:1
pub returns-clause-app : goal.returns-clause-app
returns-clause-app c =
    let base : app_of c.about.result ≡ words.bare =
    rw (c.about.ensures, c.version.ensures, c.no_binary_name.ensures)
    (ap (on_top (λ s. record s { no_binary_name = true; has_version = true })) c.new.ensures.app) in
    let one = c.in_ok-arg.ensures.shape c.mandatory.ensures.local ∙ ap₂ with_rule base c.mandatory.ensures.same in
    let two = c.in_ok-arg-2.ensures.shape c.mandatory-2.ensures.local ∙ ap₂ with_rule one c.mandatory-2.ensures.same in
    let three = c.in_ok-arg-3.ensures.shape c.mandatory-3.ensures.local ∙ ap₂ with_rule two c.mandatory-3.ensures.same in
    let four = c.in_ok-arg-4.ensures.shape c.mandatory-4.ensures.local ∙ ap₂ with_rule three c.mandatory-4.ensures.same in
    let five = c.in_ok-arg-5.ensures.shape c.optional.ensures.local ∙ ap₂ with_rule four c.optional.ensures.same in
    IfOk-weaker c.arg-6.result _ _ (λ command added. added.shape c.optional-2.ensures.local ∙ ap₂ with_rule five c.optional-2.ensures.same) c.arg-6.ensures

-- src/command.rt:29:1
pub returns-clause-needed : goal.returns-clause-needed
returns-clause-needed c =
    let start = c.about.result in
    let args : args_of start ≡ [] = ap (λ f. f.args.items) c.about.ensures ∙ (ap (λ f. f.args.items) c.version.ensures ∙ ap (λ f. f.args.items) c.no_binary_name.ensures) ∙ c.new.ensures.empty.0 in
    let groups : groups_of start ≡ [] = ap (λ f. f.groups.items) c.about.ensures ∙ (ap (λ f. f.groups.items) c.version.ensures ∙ ap (λ f. f.groups.items) c.no_binary_name.ensures) ∙ c.new.ensures.empty.1 in
    let globals : (out-Command start).has_globals ≡ false = ap (λ f. f.has_globals) c.about.ensures ∙ (ap (λ f. f.has_globals) c.version.ensures ∙ ap (λ f. f.has_globals) c.no_binary_name.ensures) ∙ c.new.ensures.local in
    let negates : (out-Command start).subcommand_negates_reqs ≡ false = ap (λ f. f.subcommand_negates_reqs) c.about.ensures ∙ (ap (λ f. f.subcommand_negates_reqs) c.version.ensures ∙ ap (λ f. f.subcommand_negates_reqs) c.no_binary_name.ensures) ∙ c.new.ensures.negates in
    let bare : IsBare start = record { args = args; groups = groups; globals = globals; negates = negates } in
    let six : Six c.mandatory.result c.mandatory-2.result c.mandatory-3.result c.mandatory-4.result c.optional.result c.optional-2.result =
    record { listen = c.mandatory.ensures; node = c.mandatory-2.ensures; cluster = c.mandatory-3.ensures; salt = c.mandatory-4.ensures; link = c.optional.ensures; clients = c.optional-2.ensures } in
    IfOk-weaker c.arg-6.result _ _ (λ command added.
    has_needed start command c.mandatory.result c.mandatory-2.result c.mandatory-3.result c.mandatory-4.result c.optional.result c.optional-2.result bare six
    (_, c.in_ok-arg.ensures, (_, c.in_ok-arg-2.ensures, (_, c.in_ok-arg-3.ensures, (_, c.in_ok-arg-4.ensures, (_, c.in_ok-arg-5.ensures, (_, added, refl)))))))
    c.arg-6.ensures
