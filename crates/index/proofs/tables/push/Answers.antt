use Rattle.index.proofs.StoreLaws.{push_added, push_full}
use Rattle.index.proofs.tables.push.Goals as goal

pub returns-then-size-used : goal.returns-then-size-used
returns-then-size-used c =
    let rest = push_full _ _ c.requires _ _ c.capacity-size.ensures.0 c.if-size-used.true in
    record { answer = rest.0; stays = rest.1 }

pub returns : goal.returns
returns c =
    let rest = push_added _ _ c.requires c.capacity-size.ensures.0 _ _ c.between.ensures c.bucket_of-head.ensures.0 c.put.ensures
    in
    record { answer = rest.0; stays = rest.1 }
