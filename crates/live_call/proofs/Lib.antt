pub mod DueLive
