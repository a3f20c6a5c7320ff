use Rattle.std.proofs.Common.{Some, None, rules, arith}
use Rattle.std.proofs.lemmas.Str.Pattern.{split_parts}
use Rattle.kr_defs.proofs.Commas.{slice_split-Lacks, slice_split-at}
use Rattle.kr_defs.proofs.lists.cut.Goals as goal

pub returns-in-Some : goal.returns-in-Some
returns-in-Some c =
    let parts = split_parts 44 c.args.text.now (Some (c.in-Some.before, c.in-Some.behind)) c.in-Some.ensures.cases (omega arith) in
    record {
      none = tt;
      some = rw parts.0 (slice_split-at _ _ _ parts.1);
      less = search rules;
    }

pub returns-in-None : goal.returns-in-None
returns-in-None c =
    let lacks = split_parts 44 c.args.text.now None c.in-None.ensures.cases (omega arith) in
    record {
      none = slice_split-Lacks _ _ lacks;
      some = tt;
      less = tt;
    }
