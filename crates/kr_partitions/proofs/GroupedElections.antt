-- An election that is asked for is decided group by group, where its type is one.
use Rattle.std.proofs.Common.{◌≡◌, true, ℤ, pos, refl}
use Rattle.kr_calls.specs.declared.elect_leaders.ElectLeaders.{ElectLeaders}
use Rattle.kr_calls.specs.Deciding.{after_groups, group_answers, nothing_decided}
use Rattle.kr_calls.specs.ElectLeaders.{answer, answer_of, decided, entries_of, groups_of, is_kind, reply_of, rule, shown}
use Rattle.kr_defs.specs.declared.options.Options.{Options}
use Rattle.kr_defs.specs.Image.{Image}

pub by_groups : (options : Options) (image : Image) (place : ℤ) (request : ElectLeaders) → is_kind request.kind ≡ true
    → decided options image place request
    ≡ (
      after_groups answer (rule options request.kind) entries_of answer_of (nothing_decided place image) (groups_of image request.topics),
      reply_of (pos 0) (shown request.topics (group_answers answer (rule options request.kind) entries_of answer_of (nothing_decided place image) (groups_of image request.topics))),
    )
unfolding decided
by_groups options image place request is = rw is refl
