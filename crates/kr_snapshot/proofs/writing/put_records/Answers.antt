use Rattle.std.proofs.Common.{[], ◌++◌, sym, refl}
use Rattle.std.proofs.lemmas.List.{append-nil}
use Rattle.std.proofs.lemmas.Result.{on_ok_weaker}
use Rattle.kr_snapshot.proofs.WriterRecords.{amid_start, amid_may, amid_more, amid_end}
use Rattle.kr_snapshot.proofs.SmallRecords.{features, brokers, topics, configs, in_sections}
use Rattle.kr_snapshot.proofs.writing.put_records.Goals as goal

pub put_features-requires : goal.put_features-requires
put_features-requires g c =
    let image = c.args.seen.now in
    let v = c.is_valid.ensures in
    amid_may _ _ _ _ (amid_start _ _ c.requires) (features image v) _ (in_sections image v) c.requires

pub put_brokers-requires : goal.put_brokers-requires
put_brokers-requires g c =
    let image = c.args.seen.now in
    let v = c.is_valid.ensures in
    let one = amid_more _ _ _ _ (amid_start _ _ c.requires) _ (features image v) (brokers image v ++ (topics image v ++ configs image v)) (in_sections image v) c.in_ok-put_features.ensures in
    amid_may _ _ _ _ one (brokers image v) _ refl c.requires

pub put_topics-requires : goal.put_topics-requires
put_topics-requires g c =
    let image = c.args.seen.now in
    let v = c.is_valid.ensures in
    let one = amid_more _ _ _ _ (amid_start _ _ c.requires) _ (features image v) (brokers image v ++ (topics image v ++ configs image v)) (in_sections image v) c.in_ok-put_features.ensures in
    let two = amid_more _ _ _ _ one _ (brokers image v) (topics image v ++ configs image v) refl c.in_ok-put_brokers.ensures in
    amid_may _ _ _ _ two (topics image v) _ refl c.requires

pub put_configs-requires : goal.put_configs-requires
put_configs-requires g c =
    let image = c.args.seen.now in
    let v = c.is_valid.ensures in
    let one = amid_more _ _ _ _ (amid_start _ _ c.requires) _ (features image v) (brokers image v ++ (topics image v ++ configs image v)) (in_sections image v) c.in_ok-put_features.ensures in
    let two = amid_more _ _ _ _ one _ (brokers image v) (topics image v ++ configs image v) refl c.in_ok-put_brokers.ensures in
    let three = amid_more _ _ _ _ two _ (topics image v) (configs image v) refl c.in_ok-put_topics.ensures in
    amid_may _ _ _ _ three (configs image v) [] (sym (append-nil (configs image v))) c.requires

pub returns : goal.returns
returns g c =
    let image = c.args.seen.now in
    let v = c.is_valid.ensures in
    let one = amid_more _ _ _ _ (amid_start _ _ c.requires) _ (features image v) (brokers image v ++ (topics image v ++ configs image v)) (in_sections image v) c.in_ok-put_features.ensures in
    let two = amid_more _ _ _ _ one _ (brokers image v) (topics image v ++ configs image v) refl c.in_ok-put_brokers.ensures in
    let three = amid_more _ _ _ _ two _ (topics image v) (configs image v) refl c.in_ok-put_topics.ensures in
    on_ok_weaker c.put_configs.result (λ adds. amid_end _ _ _ _ (amid_more _ _ _ _ three _ (configs image v) [] (sym (append-nil (configs image v))) adds) refl) c.put_configs.ensures
