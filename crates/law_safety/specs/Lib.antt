pub mod FencingLaws
pub mod HearingLaws
pub mod RefusalLaws
pub mod SafeChangeLaws
