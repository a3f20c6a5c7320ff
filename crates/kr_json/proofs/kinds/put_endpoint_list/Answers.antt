use Rattle.kr_json.proofs.Joined.{three}
use Rattle.kr_json.proofs.kinds.put_endpoint_list.Goals as goal

pub returns : goal.returns
returns c =
    let middle = rw c.as_slice.ensures at c.in_ok-put_endpoints.ensures in
    three _ _ _ _ _ _ _ c.in_ok-put_str.ensures middle c.in_ok-put_str-2.ensures
